use borrow.Author.Rules.{rules}
use mathlib.Core.Path.{◌≡◌, refl, sym, ◌∙◌}
use mathlib.Core.Bool.{Bool, true, false, ◌&&◌}
use mathlib.Core.List.{List, [], ◌∷◌}
use Prim.Native.Nat.{ℕ, ◌+◌, ◌≤◌, ◌<◌}
use lib.Dec.{ltb}
use lib.ListN.{length, get_or, take, drop}
use denote.Bor.{Bor}
use Rattle.std.specs.Prelude.{Option, None, Some, MatchOption, IsTrue}
use Rattle.std.specs.List.{HoldsAt}
use Rattle.book.specs.Layout.{depth_in, overlay_in}
use Rattle.records.specs.Record.{slot}
use Rattle.wellformed.specs.Check.{stands, rises}
use Rattle.wellformed.proofs.Tests.{last_rises, next_rises, turn, passed}
use Rattle.wellformed.proofs.check.records_stand.Goals as goal
use Rattle.wellformed.proofs.check.records_stand.Goals.{then-not-rises-via-then-not-rises, then-not-rises-via-else-not-rises+then-not-record_stands}

-- what is said of the neighbour, if there is one
neighbour : (l : List (List ℕ)) (i : ℕ) (r : List ℕ) {P : Bor (List ℕ) → Type 0} (o : Option (Bor (List ℕ))) (b : Bool)
    → MatchOption o (length l ≤ i + 1) (λ x. (i + 1 < length l) × HoldsAt (λ y. x.now ≡ y) l (i + 1))
    → MatchOption o (IsTrue b) P
    → ((x : Bor (List ℕ)) → P x → b ≡ ltb (slot r) (slot x.now))
    → b ≡ rises (take 2 (r ∷ drop (i + 1) l))
neighbour l i r None b h k f = k ∙ sym (last_rises l i r h)
neighbour l i r (Some x) b h k f = f x k ∙ rw (h.1 []) (sym (next_rises l i r h.0))

pub returns-then-not-rises : goal.returns-then-not-rises
returns-then-not-rises c =
    let l = c.args.records.now in
    let i = c.loop-i.i in
    let s = c.args.header.now in
    let rises_so : c.is_none_or-rises.result ≡ rises (take 2 (get_or l i [] ∷ drop (i + 1) l)) =
    neighbour l i (get_or l i []) c.get.result c.is_none_or-rises.result c.get.ensures.lookup.3 c.is_none_or-rises.ensures (λ x h. search rules) in
    sym
    (c.loop-i.invariant ∙ turn (depth_in s) (overlay_in s) l i c.loop-i-test.true
    ∙ elim c.then-not-rises.branch [
      | then-not-rises-via-then-not-rises w ↦ rw (sym rises_so ∙ w.if-not-rises.true) (none (stands (depth_in s) (overlay_in s) (get_or l i [])))
      | then-not-rises-via-else-not-rises+then-not-record_stands w ↦ rw (sym w.record_stands.ensures ∙ w.if-not-record_stands.true)
    ])
  where
    none : (b : Bool) → (b && false) ≡ false
    none true = refl
    none false = refl

pub loop-i-preserved : goal.loop-i-preserved
loop-i-preserved c =
    let l = c.args.records.now in
    let i = c.loop-i.i in
    let s = c.args.header.now in
    let rises_so : c.is_none_or-rises.result ≡ rises (take 2 (get_or l i [] ∷ drop (i + 1) l)) =
    neighbour l i (get_or l i []) c.get.result c.is_none_or-rises.result c.get.ensures.lookup.3 c.is_none_or-rises.ensures (λ x h. search rules) in
    c.loop-i.invariant ∙ turn (depth_in s) (overlay_in s) l i c.loop-i-test.true
    ∙ rw (sym rises_so ∙ c.if-not-rises.false, sym c.record_stands.ensures ∙ c.if-not-record_stands.false)

pub returns : goal.returns
returns c = sym (c.loop-i.invariant ∙ passed _ _ c.args.records.now c.loop-i.i c.loop-i-test.false)
