-- The rank is a strict total order: it is made of comparisons, one after another, and each of them is one.
use Rattle.std.specs.Prelude.{◌≡◌, refl, false, ◌⊎◌, List, ℕ}
use Rattle.std.proofs.Common.{sym, ap, ◌∙◌, inl, inr}
use Rattle.std.proofs.lemmas.Bool.{false≢true}
use Rattle.std.specs.declared.cmp.Ordering.{Ordering}
use Rattle.std.specs.declared.cmp.Ordering.TheVariants.{Less, Equal, Greater}
use Rattle.std.specs.Ordering.{ordering_then, ordering_reverse, is_lt}
use Rattle.octets.specs.Order.{byte_order}
use Rattle.octets.proofs.Ordered.{is_less_lem, order_self, order_turned, same_equal, less_trans, then_less, then_same, then_turned}
use Rattle.settling.specs.Rank.{Rank}
use Rattle.records.specs.Record.{slot, time_in, address_in, signature_in}
use Rattle.records.specs.Rank.{rank_order, beats}

-- a comparison that orders: records that it calls the same stand alike to every third
record Orders (f : List ℕ → List ℕ → Ordering) : Type 0 where
  self : (a : List ℕ) → f a a ≡ Equal
  turn : (a b : List ℕ) → f b a ≡ ordering_reverse (f a b)
  trans : (a b c : List ℕ) → f a b ≡ Less → f b c ≡ Less → f a c ≡ Less
  alike : (a b c : List ℕ) → f a b ≡ Equal → f a c ≡ f b c

turned_twice : (o : Ordering) → ordering_reverse (ordering_reverse o) ≡ o
turned_twice Less = refl
turned_twice Equal = refl
turned_twice Greater = refl

by_bytes : (key : List ℕ → List ℕ) → Orders (λ a b. byte_order (key a) (key b))
by_bytes key =
    record {
      self = λ a. order_self (key a);
      turn = λ a b. order_turned (key a) (key b);
      trans = λ a b c. less_trans (key a) (key b) (key c);
      alike = λ a b c e. ap (λ (k : List ℕ). byte_order k (key c)) (same_equal (key a) (key b) e);
    }

module _ (f : List ℕ → List ℕ → Ordering) (o : Orders f) where
  alike_right : (a b c : List ℕ) → f b c ≡ Equal → f a b ≡ f a c
  alike_right a b c e = o.turn b a ∙ ap ordering_reverse (o.alike b c a e) ∙ sym (o.turn c a)

  reversed : Orders (λ a b. ordering_reverse (f a b))
  reversed =
      record {
        self = λ a. ap ordering_reverse (o.self a);
        turn = λ a b. ap ordering_reverse (o.turn a b);
        trans = λ a b c p q. sym (o.turn a c) ∙ o.trans c b a (o.turn b c ∙ q) (o.turn a b ∙ p);
        alike = λ a b c e. ap ordering_reverse (o.alike a b c (sym (turned_twice (f a b)) ∙ ap ordering_reverse e));
      }

module _ (f g : List ℕ → List ℕ → Ordering) (o : Orders f) (p : Orders g) where
  joined : Orders (λ a b. ordering_then (f a b) (g a b))
  joined =
      record {
        self = λ a. rw (o.self a) (p.self a);
        turn = λ a b. rw (o.turn a b, p.turn a b) (sym (then_turned (f a b) (g a b)));
        trans = λ a b c h k. go a b c (then_less (f a b) (g a b) h) (then_less (f b c) (g b c) k);
        alike = λ a b c e. let s = then_same (f a b) (g a b) e in rw (o.alike a b c s.0, p.alike a b c s.1);
      }
    where
      go : (a b c : List ℕ) → (f a b ≡ Less) ⊎ ((f a b ≡ Equal) × (g a b ≡ Less)) → (f b c ≡ Less) ⊎ ((f b c ≡ Equal) × (g b c ≡ Less)) → ordering_then (f a c) (g a c) ≡ Less
      go a b c (inl h) (inl k) = rw (o.trans a b c h k)
      go a b c (inl h) (inr k) = rw (← alike_right f o a b c k.0, h)
      go a b c (inr h) (inl k) = rw (o.alike a b c h.0, k)
      go a b c (inr h) (inr k) = rw (o.alike a b c h.0, k.0) (p.trans a b c h.1 k.1)

ranks : Orders rank_order
unfolding rank_order
ranks =
    joined (λ a b. ordering_reverse (byte_order (time_in a) (time_in b))) _ (reversed (λ a b. byte_order (time_in a) (time_in b)) (by_bytes time_in))
    (joined (λ a b. byte_order (address_in a) (address_in b)) _ (by_bytes address_in)
    (joined (λ a b. byte_order (signature_in a) (signature_in b)) _ (by_bytes signature_in)
    (by_bytes (λ a. a))))

pub rank_turned : (a b : List ℕ) → rank_order b a ≡ ordering_reverse (rank_order a b)
rank_turned a b = ranks.turn a b

neither_less : (o : Ordering) → is_lt o ≡ false → is_lt (ordering_reverse o) ≡ false → o ≡ Equal
neither_less Less e f = absurd (false≢true (sym e))
neither_less Equal e f = refl
neither_less Greater e f = absurd (false≢true (sym f))

-- records that rank the same are the same
pub rank_same : (a b : List ℕ) → rank_order a b ≡ Equal → a ≡ b
unfolding rank_order
rank_same a b e =
    let last = byte_order a b in
    let signature = byte_order (signature_in a) (signature_in b) in
    let address = byte_order (address_in a) (address_in b) in
    let time = ordering_reverse (byte_order (time_in a) (time_in b)) in
    let rest = (then_same time (ordering_then address (ordering_then signature last)) e).1 in
    same_equal a b (then_same signature last (then_same address (ordering_then signature last) rest).1).1

pub ranked : Rank slot beats
unfolding beats
ranked =
    record {
      irrefl = λ a. ap is_lt (ranks.self a);
      trans = λ a b c u v p q. ap is_lt (ranks.trans a b c (is_less_lem _ p) (is_less_lem _ q));
      total = λ a b u p q. rank_same a b (neither_less (rank_order a b) p (rw (← ranks.turn a b) q));
    }
