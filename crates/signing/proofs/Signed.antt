-- What one signed digest says of two messages.
use mathlib.Core.Path.{◌≡◌, refl, sym, ap, ◌∙◌}
use mathlib.Core.Logic.{◌⊎◌, inl, inr}
use mathlib.Core.List.Memᴰ
use mathlib.Core.List.{List, ◌++◌, append_cancel_left}
use Prim.Native.Nat.{ℕ}
use Rattle.std.specs.declared.cmp.Ordering.TheVariants.{Less}
use Rattle.octets.specs.Order.{byte_order}
use Rattle.octets.proofs.Ordered.{less_not_same, order_self, order_total}
use Rattle.keccak.specs.Hash.{keccak256}
use Rattle.keccak.specs.Collision.{Collision}
use Rattle.signing.specs.Digest.{lead, signed, covered, owner_signs, hashed}

-- strings are equal or not
same_or_not : (a b : List ℕ) → (a ≡ b) ⊎ (a ≡ b → ⊥)
same_or_not a b = go (order_total a b)
  where
    apart : (x y : List ℕ) → byte_order x y ≡ Less → x ≡ y → ⊥
    apart x y l e = less_not_same (sym l ∙ ap (λ (z : List ℕ). byte_order z y) e ∙ order_self y)

    go : (byte_order a b ≡ Less) ⊎ ((a ≡ b) ⊎ (byte_order b a ≡ Less)) → (a ≡ b) ⊎ (a ≡ b → ⊥)
    go (inl l) = inr (apart a b l)
    go (inr (inl e)) = inl e
    go (inr (inr l)) = inr (λ e. apart b a l (sym e))

module _ (address stamp address' stamp' : List ℕ) where
  abbrev all : List (List ℕ)
  all = hashed address stamp ++ hashed address' stamp'

  inner : (covered address stamp ≡ covered address' stamp' → ⊥) → keccak256 (covered address stamp) ≡ keccak256 (covered address' stamp') → Collision all
  unfolding hashed
  inner n e =
      record {
        first = covered address stamp;
        second = covered address' stamp';
        first_hashed = Memᴰ.head refl;
        second_hashed = Memᴰ.tail (Memᴰ.tail (Memᴰ.head refl));
        different = n;
        one_digest = e;
      }

  outer : (keccak256 (covered address stamp) ≡ keccak256 (covered address' stamp') → ⊥) → owner_signs address stamp ≡ owner_signs address' stamp' → Collision all
  unfolding hashed owner_signs signed
  outer n e =
      record {
        first = lead ++ keccak256 (covered address stamp);
        second = lead ++ keccak256 (covered address' stamp');
        first_hashed = Memᴰ.tail (Memᴰ.head refl);
        second_hashed = Memᴰ.tail (Memᴰ.tail (Memᴰ.tail (Memᴰ.head refl)));
        different = λ q. n (append_cancel_left lead _ _ q);
        one_digest = e;
      }

  pub one_digest : owner_signs address stamp ≡ owner_signs address' stamp' → (covered address stamp ≡ covered address' stamp') ⊎ Collision all
  one_digest e = go (same_or_not (covered address stamp) (covered address' stamp')) (same_or_not (keccak256 (covered address stamp)) (keccak256 (covered address' stamp')))
    where
      go : (covered address stamp ≡ covered address' stamp') ⊎ (covered address stamp ≡ covered address' stamp' → ⊥)
          → (keccak256 (covered address stamp) ≡ keccak256 (covered address' stamp')) ⊎ (keccak256 (covered address stamp) ≡ keccak256 (covered address' stamp') → ⊥)
          → (covered address stamp ≡ covered address' stamp') ⊎ Collision all
      go (inl q) r = inl q
      go (inr n) (inl q) = inr (inner n q)
      go (inr n) (inr m) = inr (outer m e)
