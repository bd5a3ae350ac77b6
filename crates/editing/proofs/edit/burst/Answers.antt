-- Bytes without a header are left; else what is written in the header and behind it is what the stores and the two edits make of the whole.
use borrow.Author.Tests.{le-leb, lt-leb}
use mathlib.Core.Path.{◌≡◌, sym, ap, ◌∙◌}
use mathlib.Core.List.{List, ◌++◌, append-nil}
use Rattle.std.proofs.Common.{append_assoc}
use native.Mathlib.Omega.{arith}
use Prim.Native.Nat.{ℕ, ◌+◌, ◌-◌, ◌≤◌}
use lib.ListN.{length, take, drop, set, replicate, take-append-drop, length-set, length-drop, length-append, length-replicate, drop_of_length-le}
use lib.Seq.{take-append-le, drop-append-le, take_all, length-take-le}
use Rattle.std.proofs.lemmas.List.{set-append_left}
use Rattle.octets.specs.Number.{bytes_of}
use Rattle.octets.proofs.Numbers.{length_bytes_of}
use Rattle.moving.specs.Moving.{over, placed}
use Rattle.moving.proofs.Edits.{placed_fits, length_placed}
use Rattle.editing.specs.Edit.{burst_bytes}
use Rattle.editing.proofs.edit.burst.Goals as goal

module _ (h r : List ℕ) (size : length h ≡ 48) where
  stored : set (set (h ++ r) 5 1) 7 16 ≡ set (set h 5 1) 7 16 ++ r
  stored =
      ap (λ (l : List ℕ). set l 7 16) (set-append_left h r 5 1 (omega arith))
      ∙ set-append_left (set h 5 1) r 7 16 (omega (arith, length-set h 5 1))

  counted : (w : List ℕ) → length w ≡ 4 → placed (h ++ r) 44 w ≡ placed h 44 w ++ r
  unfolding over
  counted w four = placed_fits (h ++ r) 44 w (simp length-append (omega arith)) ∙ apart ∙ ap (λ (l : List ℕ). l ++ r) (sym (placed_fits h 44 w (omega arith)))
    where
      apart : over (h ++ r) 44 w ≡ over h 44 w ++ r
      apart =
          let e : 44 + length w ≡ 48 = omega arith in
          rw (take-append-le 44 h r (omega arith), e, drop-append-le 48 h r (omega arith), append_assoc (take 44 h ++ w) (drop 48 h) r)

  cleared : (z : List ℕ) → length z ≡ length r → placed (h ++ r) 48 z ≡ h ++ z
  unfolding over
  cleared z long = placed_fits (h ++ r) 48 z (simp length-append (omega arith)) ∙ behind
    where
      behind : over (h ++ r) 48 z ≡ h ++ z
      behind =
          let e : length (h ++ r) ≤ 48 + length z = simp length-append (omega arith) in
          rw (take-append-le 48 h r (omega arith), take_all 48 h (omega arith), drop_of_length-le (h ++ r) e, append-nil (h ++ z))

burst_made : (s a b : List ℕ) → 48 ≤ length s → a ≡ placed (set (set (take 48 s) 5 1) 7 16) 44 (bytes_of 4 0) → b ≡ replicate (length (drop 48 s)) 0 → a ++ b ≡ burst_bytes s
unfolding burst_bytes
burst_made s a b h p q =
    let front = set (set (take 48 s) 5 1) 7 16 in
    let behind = drop 48 s in
    let zeros = replicate {A = ℕ} (length s - 48) 0 in
    let size : length front ≡ 48 = length-set (set (take 48 s) 5 1) 7 16 ∙ length-set (take 48 s) 5 1 ∙ length-take-le 48 s h in
    let long : length zeros ≡ length behind = length-replicate (length s - 48) 0 ∙ sym (length-drop 48 s) in
    let whole : set (set s 5 1) 7 16 ≡ front ++ behind = ap (λ (l : List ℕ). set (set l 5 1) 7 16) (sym (take-append-drop 48 s)) ∙ stored (take 48 s) behind (length-take-le 48 s h) in
    let head : placed (set (set s 5 1) 7 16) 44 (bytes_of 4 0) ≡ a ++ behind =
    ap (λ (l : List ℕ). placed l 44 (bytes_of 4 0)) whole ∙ counted front behind size (bytes_of 4 0) (length_bytes_of 4 0) ∙ ap (λ (l : List ℕ). l ++ behind) (sym p) in
    let filled : zeros ≡ b = sym (q ∙ ap (λ (n : ℕ). replicate n 0) (length-drop 48 s)) in
    rw (le-leb 48 (length s) h)
    (sym
    (ap (λ (l : List ℕ). placed l 48 zeros) head
    ∙ cleared a behind (ap length p ∙ length_placed front 44 (bytes_of 4 0) ∙ size) zeros long
    ∙ ap (λ (l : List ℕ). a ++ l) filled))

pub returns-in-Some : goal.returns-in-Some
returns-in-Some c =
    let f = c.in-Some.ensures.cases in
    burst_made c.args.book.now _ _ (omega (arith, f.2)) (c.write.ensures ∙ ap (λ (l : List ℕ). placed (set (set l 5 1) 7 16) 44 (bytes_of 4 0)) f.0) (c.fill.ensures.after (λ y e. e) ∙ rw f.1)

pub returns-in_default : goal.returns-in_default
unfolding burst_bytes
returns-in_default c = rw (lt-leb _ _ c.in_default.ensures.cases)
