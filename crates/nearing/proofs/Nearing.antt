-- Nearness by two words: the bucket's and the overlay's first.
use mathlib.Core.Path.{◌≡◌, sym, ap, ◌∙◌}
use mathlib.Core.List.{List}
use Prim.Native.Nat.{ℕ, ◌+◌, ◌-◌, ◌*◌, ◌≤◌}
use native.Mathlib.Omega.{arith}
use lib.Bits.{bit_xor}
use lib.Count.{count_leading_zeros}
use borrow.Author.Tests.{le-leb, eq-eqb}
use lib.ListN.{length, take, drop}
use lib.Seq.{take-take, drop-drop}
use Rattle.octets.specs.Bytes.{Bytes}
use Rattle.octets.specs.Number.{big, big_at}
use Rattle.octets.proofs.Bytes.{bytes_take, bytes_drop}
use Rattle.octets.proofs.Parts.{part_length, part_of_take}
use Rattle.octets.proofs.Numbers.{big_at_fits}
use Rattle.records.specs.Record.{slot, near_of}
use Rattle.records.proofs.Buckets.{near_words}
use Rattle.book.specs.Layout.{overlay_in}
use Rattle.nearing.specs.Near.{near_in}

-- a number in a part of a string stands in the string
number_in_part : (w n k at : ℕ) (s : List ℕ) → k + w ≤ n → at + n ≤ length s → big_at w (take n (drop at s)) k ≡ big_at w s (at + k)
number_in_part w n k at s h j =
    let long : length (take n (drop at s)) ≡ n = part_length s at n j in
    let e : k + (n - k) ≡ n = omega arith in
    let part : take w (drop k (take n (drop at s))) ≡ take w (drop (at + k) s) =
    ap (λ (m : ℕ). take w (drop k (take m (drop at s)))) (sym e)
    ∙ ap (take w) (part_of_take k (n - k) (drop at s))
    ∙ take-take w (n - k) (drop k (drop at s)) (omega arith)
    ∙ ap (take w) (drop-drop k at s) in
    big_at_fits w (take n (drop at s)) k (omega (arith, long)) ∙ ap big part ∙ sym (big_at_fits w s (at + k) (omega arith))

pub near_given : (s : List ℕ) → Bytes s → (x y : ℕ) → y ≡ big_at 2 s 8 → (g : List ℕ) → 48 ≤ length s → length g ≡ 145 → Bytes g → x ≡ big_at 2 g 34
    → count_leading_zeros 16 (bit_xor x y) ≡ near_of (overlay_in s) (slot g)
near_given s b x y ey g h k c ex =
    near_words (overlay_in s) g x y (part_length s 8 32 (omega arith)) k (bytes_take 32 (drop 8 s) (bytes_drop 8 s b)) c ex
    (ey ∙ sym (number_in_part 2 32 0 8 s (omega arith) (omega arith)))

-- of a record of the book itself
pub near_there : (s : List ℕ) → Bytes s → (x y : ℕ) → y ≡ big_at 2 s 8 → (i : ℕ) → 48 + 145 * (i + 1) ≤ length s → x ≡ big_at 2 s (82 + 145 * i)
    → count_leading_zeros 16 (bit_xor x y) ≡ near_of (overlay_in s) (slot (take 145 (drop (48 + 145 * i) s)))
near_there s b x y ey i h ex =
    let from = 48 + 145 * i in
    let e : 82 + 145 * i ≡ 48 + 145 * i + 34 = omega arith in
    near_given s b x y ey (take 145 (drop from s)) (omega arith) (part_length s from 145 (omega arith)) (bytes_take 145 (drop from s) (bytes_drop from s b))
    (ex ∙ ap (big_at 2 s) e ∙ sym (number_in_part 2 145 34 from s (omega arith) (omega arith)))

pub near_in_lem : (s g : List ℕ) → 48 ≤ length s → length g ≡ 145 → near_in s g ≡ near_of (overlay_in s) (slot g)
unfolding near_in
near_in_lem s g h k = rw (le-leb 48 (length s) h, eq-eqb (length g) 145 k)
