-- A turn finds a record that does not stand, or goes on to the next.
use mathlib.Core.Path.{◌≡◌, refl, sym, ap, ◌∙◌}
use mathlib.Core.Bool.{Bool, true, false, ◌&&◌}
use mathlib.Core.List.{List, []}
use Prim.Native.Nat.{ℕ, ◌+◌, ◌<◌}
use native.Mathlib.Omega.{arith}
use lib.ListN.{length, get_or, drop}
use Rattle.batches.specs.Batch.{fit, below, ordered}
use Rattle.batches.proofs.Listed.{turn, none_left}
use Rattle.batches.proofs.check.in_order.Goals as goal

-- what is said of the record at place k, which is the turn's, and of its neighbour
told : (l : List (List ℕ)) (i k : ℕ) (s : Bool) → k ≡ i → i < length l → s ≡ (fit (get_or l k []) && below (get_or l k []) (drop (k + 1) l))
    → ordered (drop i l) ≡ (s && ordered (drop (i + 1) l))
told l i k s e h says =
    turn l i h ∙ grouped (fit (get_or l i [])) (below (get_or l i []) (drop (i + 1) l)) (ordered (drop (i + 1) l))
    ∙ ap (λ (b : Bool). b && ordered (drop (i + 1) l)) (sym (says ∙ ap (λ (n : ℕ). fit (get_or l n []) && below (get_or l n []) (drop (n + 1) l)) e))
  where
    grouped : (a b c : Bool) → (a && (b && c)) ≡ ((a && b) && c)
    grouped true b c = refl
    grouped false b c = refl

pub returns-then-not-stands : goal.returns-then-not-stands
returns-then-not-stands c =
    let l = c.args.records.now in
    let i = c.loop-i.i in
    sym
    (c.loop-i.invariant ∙ told l i _ c.stands.result (omega arith) (omega arith) c.stands.ensures
    ∙ ap (λ (b : Bool). b && ordered (drop (i + 1) l)) c.if-not-stands.true)

pub loop-i-preserved : goal.loop-i-preserved
loop-i-preserved c =
    let l = c.args.records.now in
    let i = c.loop-i.i in
    c.loop-i.invariant ∙ told l i _ c.stands.result (omega arith) (omega arith) c.stands.ensures
    ∙ ap (λ (b : Bool). b && ordered (drop (i + 1) l)) c.if-not-stands.false

pub returns : goal.returns
returns c = sym (c.loop-i.invariant ∙ none_left c.args.records.now c.loop-i.i (omega arith))
