-- Settling read by members: what the records settle to is the winners inside the least depth at which they fit, and nothing else is.
use Prim.Native.Nat.{ℕ, suc, ◌+◌, ◌-◌, ◌≤◌, ◌<◌}
use native.Mathlib.Omega.{arith}
use mathlib.Core.Path.{◌≡◌, refl, sym, ◌∙◌, ap}
use mathlib.Core.Bool.{true}
use mathlib.Core.Logic.{◌⊎◌, inl, inr}
use mathlib.Core.List.Memᴰ
use mathlib.Core.List.{List, [], Memᴰ}
use lib.ListN.{length}
use Rattle.settling.specs.Rank.{Shape}
use Rattle.settling.specs.Book.{State, good, inside, settle}
use Rattle.settling.specs.History.{enter_all, winners, settled}
use Rattle.settling.specs.Meaning.{Ascending, Wins, Winners, Crowded, Settles, fitting, bursting}
use Rattle.settling.proofs.Cases.{Side, below, level, above, side, true_false, not_true}
use Rattle.settling.proofs.Rank.{AtLeast, not_atleast}
use Rattle.settling.proofs.Inside.{ascending_inside, ascending_enter_all}
use Rattle.settling.proofs.Members.{member_inside, inside_member, ascending_one, ascending_equal, Held, enter_all_member, enter_all_held}
use Rattle.settling.proofs.Settle.{Sought, found, nowhere, seek}

module _ {A : Type 0} (B : Shape A) where
  open B use {slot, beats, near, capacity, top, rank}

  from_none : (r : A) (s : List A) → Memᴰ r [] ⊎ Memᴰ r s → Memᴰ r s
  from_none r s (inl k) = absurd (Memᴰ.not-nil k)
  from_none r s (inr k) = k

  offered_in : (r : A) (s : List A) → Memᴰ r (enter_all B [] s) → Memᴰ r s
  offered_in r s m = from_none r s (enter_all_member B r [] s m)

  member_wins : (s : List A) (r : A) → Memᴰ r (enter_all B [] s) → Wins B s r
  member_wins s r m = record { offered = offered_in r s m; unbeaten = λ q k e. not_true (beats q r) (λ b. lost q e b (enter_all_held B q [] s k)) }
    where
      -- the slot's holder is r, and r is at least what beats it
      lost : (q : A) → slot q ≡ slot r → beats q r ≡ true → Held B q (enter_all B [] s) → ⊥
      lost q e b h =
          let f : h.by ≡ r = ascending_one B h.by r (enter_all B [] s) (ascending_enter_all B [] s tt) h.there m (h.same_slot ∙ e) in
          not_atleast rank q r e b (rw f at h.at_least)

  wins_member : (s : List A) (r : A) → Wins B s r → Memᴰ r (enter_all B [] s)
  wins_member s r w = go (enter_all_held B r [] s w.offered)
    where
      cast : (h : Held B r (enter_all B [] s)) → AtLeast rank h.by r → Memᴰ r (enter_all B [] s)
      cast h (inl e) = Memᴰ.cast (sym e) h.there
      cast h (inr b) = absurd (true_false (sym b ∙ w.unbeaten h.by (offered_in h.by s h.there) h.same_slot))

      go : Held B r (enter_all B [] s) → Memᴰ r (enter_all B [] s)
      go h = cast h h.at_least

  pub winners_ascending : (s : List A) → Ascending B (winners B s)
  unfolding winners
  winners_ascending s = ascending_enter_all B [] s tt

  pub winners_inside : (s : List A) (d : ℕ) → Winners B s d (inside B d (winners B s))
  unfolding winners
  winners_inside s d = record {
    ascending = ascending_inside B d (enter_all B [] s) (winners_ascending s);
    members = λ r. (
      λ m. let k : Memᴰ r (enter_all B [] s) × (d ≤ near (slot r)) = inside_member B d r (enter_all B [] s) m in (member_wins s r k.0, k.1),
      λ w. member_inside B d r (enter_all B [] s) (wins_member s r w.0) w.1,
    );
  }

  pub crowded : (s : List A) (d : ℕ) → capacity < length (inside B d (winners B s)) → Crowded B s d
  crowded s d h = record { list = inside B d (winners B s); winning = winners_inside s d; more = h }

  -- one list of winners at a depth
  pub winners_one : (s : List A) (d : ℕ) (l m : List A) → Winners B s d l → Winners B s d m → l ≡ m
  winners_one s d l m v w =
      ascending_equal B l m v.ascending w.ascending (λ a k. (w.members a).1 ((v.members a).0 k)) (λ a k. (v.members a).1 ((w.members a).0 k))

  -- from the computed settling to its reading
  pub settle_settles : (n from : ℕ) (s : List A) → n + from ≡ suc top → Settles B from s (settle B n from (winners B s))
  settle_settles n from s e = go (seek B n from (winners B s))
    where
      go : Sought B n from (winners B s) → Settles B from s (settle B n from (winners B s))
      go (found d a b f u q) = rw q (fitting d (inside B d (winners B s)) a (omega arith) (winners_inside s d) f (λ c x y. crowded s c (u c x y)))
      go (nowhere u q) = rw q (bursting (λ c x y. crowded s c (u c x (omega arith))))

  pub settled_settles : (start : ℕ) (s : List A) → start ≤ top → Settles B start s (settled B start s)
  unfolding settled
  settled_settles start s p = settle_settles (suc top - start) start s (omega arith)

  -- where the winners fit they are not too many
  not_crowded : (s : List A) (d : ℕ) (l : List A) → Winners B s d l → length l ≤ capacity → Crowded B s d → ⊥
  not_crowded s d l w f c = let e : length c.list ≡ length l = ap length (winners_one s d c.list l c.winning w) in omega (arith, c.more)

  pub settles_one : (from : ℕ) (s : List A) (b c : State A) → Settles B from s b → Settles B from s c → b ≡ c
  settles_one from s b c (fitting d l p t w f u) (fitting e m p' t' w' f' u') = go (side d e)
    where
      go : Side d e → good d l ≡ good e m
      go (below h) = absurd (not_crowded s d l w f (u' d p h))
      go (level h) = let z : l ≡ m = winners_one s d l m w (rw h w') in rw (h, z)
      go (above h) = absurd (not_crowded s e m w' f' (u e p' h))
  settles_one from s b c (fitting d l p t w f u) (bursting v) = absurd (not_crowded s d l w f (v d p t))
  settles_one from s b c (bursting v) (fitting d l p t w f u) = absurd (not_crowded s d l w f (v d p t))
  settles_one from s b c (bursting v) (bursting w) = refl
