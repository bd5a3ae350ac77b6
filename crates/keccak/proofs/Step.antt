-- Laws of absorbing: one byte, parts, and the turns of the two loops.
use mathlib.Core.Path.{◌≡◌, refl, ap, ap₂, ◌∙◌, sym, subst}
use mathlib.Core.Logic.{⊎_elim}
use mathlib.Core.List.{List, [], ◌∷◌, ◌++◌, append_assoc, append-nil}
use Prim.Native.Nat.{ℕ, zero, suc, ◌+◌, ◌-◌, ◌*◌, ◌/◌, ◌%◌, ◌^◌, ◌<◌, ◌≤◌}
use lib.Bits.{bit_xor}
use native.Mathlib.Nat.{eq-or-lt_of_le}
use native.Mathlib.Decide.{dec_lt}
use native.Mathlib.Numerals.{add-one}
use native.Mathlib.Omega.{arith}
use borrow.Author.Tests.{eq-eqb, ne_eqb, lt-ltb, le-ltb}
use lib.ListN.{get_or, set, take, drop, length, length-set, take-append-drop}
use lib.Seq.{take-suc, take-add, take-length, length-take-le}
use Rattle.std.specs.Simd.{first_chunks}
use Rattle.octets.specs.Bytes.{Bytes}
use Rattle.octets.specs.Number.{little}
use Rattle.octets.proofs.Bytes.{bytes_parts, bytes_take}
use Rattle.permutation.specs.Permutation.{permute}
use Rattle.permutation.proofs.Rounds.{permute_length}
use Rattle.keccak.specs.declared.sponge.Sponge.{Sponge}
use Rattle.keccak.specs.Sponge.{Sound, sponge, fresh, usable, step, absorbed, joined_parts, xor_byte}
use Rattle.keccak.proofs.Lane.{xor_bytes, word_in}

pub absorbed_append : (s : Sponge) (xs ys : List ℕ) → absorbed s (xs ++ ys) ≡ absorbed (absorbed s xs) ys
unfolding absorbed
absorbed_append s [] ys = refl
absorbed_append s (x ∷ xs) ys = absorbed_append (step s x) xs ys

pub step_full : (a : List ℕ) (n b : ℕ) → n + 1 ≡ 136 → step (sponge a n) b ≡ sponge (permute (xor_byte a n b)) 0
unfolding step
step_full a n b h = simp (eq-eqb (n + 1) 136 h)

pub step_next : (a : List ℕ) (n b : ℕ) → (n + 1 ≡ 136 → ⊥) → step (sponge a n) b ≡ sponge (xor_byte a n b) (n + 1)
unfolding step
step_next a n b h = simp (ne_eqb (n + 1) 136 h)

pub usable_in : (s : Sponge) → s.place < 136 → usable s ≡ s
unfolding usable
usable_in s h = simp (lt-ltb s.place 136 h)

pub usable_out : (s : Sponge) → 136 ≤ s.place → usable s ≡ fresh
unfolding usable
usable_out s h = simp (le-ltb s.place 136 h)

-- bytes that do not fill the block
pub part_in : (bs a : List ℕ) (n : ℕ) → n + length bs < 136 → absorbed (sponge a n) bs ≡ sponge (xor_bytes a n bs) (n + length bs)
unfolding absorbed xor_bytes
part_in [] a n h = ap (sponge a) (omega arith)
part_in (b ∷ bs) a n h =
    ap (λ (s : Sponge). absorbed s bs) (step_next a n b (λ e. omega arith))
    ∙ part_in bs (xor_byte a n b) (n + 1) (omega arith)
    ∙ ap (sponge (xor_bytes (xor_byte a n b) (n + 1) bs)) (omega arith)

-- bytes that fill it
pub full_in : (bs a : List ℕ) (n : ℕ) → n + length bs ≡ 136 → n < 136 → absorbed (sponge a n) bs ≡ sponge (permute (xor_bytes a n bs)) 0
unfolding absorbed xor_bytes
full_in [] a n e h = absurd (omega arith)
full_in (b ∷ []) a n e h = step_full a n b (omega arith)
full_in (b ∷ c ∷ bs) a n e h =
    ap (λ (s : Sponge). absorbed s (c ∷ bs)) (step_next a n b (λ m. omega arith)) ∙ full_in (c ∷ bs) (xor_byte a n b) (n + 1) (omega arith) (omega arith)

-- ---- where a sponge stands

pub fresh_sound : Sound fresh
fresh_sound = record { lanes25 = refl; in_block = omega arith }

-- k bytes after the next one, it stands where it would stand k + 1 bytes from here
Then : Sponge → ℕ → Sponge → Type 0
Then s k t = Sound t × ((t.place + k) % 136 ≡ (s.place + suc k) % 136)

step_at : (s : Sponge) (b k : ℕ) → Sound s → Then s k (step s b)
unfolding Then
step_at s b k h =
    let a : List ℕ = s.lanes in
    let n : ℕ = s.place in
    let i : n < 136 = h.in_block in
    ⊎_elim
    (λ e.
    subst (Then s k) (sym (step_full a n b e))
    (record { lanes25 = permute_length (xor_byte a n b); in_block = omega arith }, omega arith))
    (λ l.
    subst (Then s k) (sym (step_next a n b (λ e. omega arith)))
    (record { lanes25 = length-set a (n / 8) (bit_xor (get_or a (n / 8) 0) (b * 2 ^ (8 * (n % 8)) % 2 ^ 64)) ∙ h.lanes25; in_block = omega arith }, omega arith))
    (eq-or-lt_of_le {n = n + 1} {m = 136} (omega arith))

pub absorbed_at : (s : Sponge) (m : List ℕ) → Sound s → Sound (absorbed s m) × ((absorbed s m).place ≡ (s.place + length m) % 136)
unfolding absorbed Then
absorbed_at s [] h = let i : s.place < 136 = h.in_block in (h, omega arith)
absorbed_at s (b ∷ m) h =
    let one : Then s (length m) (step s b) = step_at s b (length m) h in
    let r : Sound (absorbed (step s b) m) × ((absorbed (step s b) m).place ≡ ((step s b).place + length m) % 136) = absorbed_at (step s b) m one.0 in
    (r.0, r.1 ∙ one.1)

step_in : (s : Sponge) (b : ℕ) → s.place < 136 → (step s b).place < 136
step_in s b h =
    ⊎_elim
    (λ e. subst (λ (t : Sponge). t.place < 136) (sym (step_full s.lanes s.place b e)) (omega arith))
    (λ l. subst (λ (t : Sponge). t.place < 136) (sym (step_next s.lanes s.place b (λ e. omega arith))) l)
    (eq-or-lt_of_le {n = s.place + 1} {m = 136} (omega arith))

-- a place of the block stays one, whatever the lanes
pub absorbed_in : (s : Sponge) (m : List ℕ) → s.place < 136 → (absorbed s m).place < 136
unfolding absorbed
absorbed_in s [] h = h
absorbed_in s (b ∷ m) h = absorbed_in (step s b) m (step_in s b h)

pub usable_at : (s : Sponge) → (usable s).place < 136
usable_at s = by (dec_lt s.place 136)
  where
    by : Dec (s.place < 136) → (usable s).place < 136
    by (yes l) = subst (λ (t : Sponge). t.place < 136) (sym (usable_in s l)) l
    by (no n) = subst (λ (t : Sponge). t.place < 136) (sym (usable_out s (omega arith))) (omega arith)

-- ---- the turns of the loops

-- more of q goes in after its first i bytes
pub absorbed_more : (s t : Sponge) (q : List ℕ) (i k : ℕ) → t ≡ absorbed s (take i q) → absorbed t (take k (drop i q)) ≡ absorbed s (take (i + k) q)
absorbed_more s t q i k e =
    ap (λ (x : Sponge). absorbed x (take k (drop i q))) e ∙ sym (absorbed_append s (take i q) (take k (drop i q))) ∙ ap (absorbed s) (sym (take-add i k q))

-- a byte: lane n / 8 is xored with the number p that has byte i of q at its place
module _ (a : List ℕ) (n p : ℕ) (s : Sponge) (q : List ℕ) (i : ℕ) (h : i < length q) (ep : p ≡ get_or q i 0 * 2 ^ (8 * (n % 8)) % 2 ^ 64)
    (was : sponge a n ≡ absorbed s (take i q)) where
  byte_same : set a (n / 8) (bit_xor (get_or a (n / 8) 0) p) ≡ xor_byte a n (get_or q i 0)
  byte_same = ap (λ (x : ℕ). set a (n / 8) (bit_xor (get_or a (n / 8) 0) x)) ep

  byte_then : step (sponge a n) (get_or q i 0) ≡ absorbed s (take (i + 1) q)
  unfolding absorbed
  byte_then =
      ap (λ (x : Sponge). step x (get_or q i 0)) was
      ∙ sym (absorbed_append s (take i q) (get_or q i 0 ∷ []))
      ∙ ap (absorbed s) (sym (take-suc q i 0 h) ∙ ap (λ (k : ℕ). take k q) (sym (add-one i)))

  pub byte_full : (r : List ℕ) → n + 1 ≡ 136 → r ≡ permute (set a (n / 8) (bit_xor (get_or a (n / 8) 0) p)) → sponge r 0 ≡ absorbed s (take (i + 1) q)
  byte_full r m er = ap (λ (x : List ℕ). sponge x 0) (er ∙ ap permute byte_same) ∙ sym (step_full a n (get_or q i 0) m) ∙ byte_then

  pub byte_next : (n + 1 ≡ 136 → ⊥) → sponge (set a (n / 8) (bit_xor (get_or a (n / 8) 0) p)) (n + 1) ≡ absorbed s (take (i + 1) q)
  byte_next m = ap (λ (x : List ℕ). sponge x (n + 1)) byte_same ∙ sym (step_next a n (get_or q i 0) m) ∙ byte_then

-- a word: the same at a place where one begins, with the eight bytes bs
module _ (a : List ℕ) (n w : ℕ) (s : Sponge) (before bs : List ℕ) (ha : length a ≡ 25) (hn : n < 136) (al : n % 8 ≡ 0) (long : length bs ≡ 8) (y : Bytes bs)
    (ew : w ≡ little bs) (was : sponge a n ≡ absorbed s before) where
  word_same : set a (n / 8) (bit_xor (get_or a (n / 8) 0) w) ≡ xor_bytes a n bs
  word_same =
      let e : 8 * (n / 8) ≡ n = omega arith in
      ap (λ (x : ℕ). set a (n / 8) (bit_xor (get_or a (n / 8) 0) x)) ew ∙ sym (word_in bs a (n / 8) (omega arith) long y) ∙ ap (λ (m : ℕ). xor_bytes a m bs) e

  word_then : absorbed (sponge a n) bs ≡ absorbed s (before ++ bs)
  word_then = ap (λ (x : Sponge). absorbed x bs) was ∙ sym (absorbed_append s before bs)

  pub word_full : (r : List ℕ) → n + 8 ≡ 136 → r ≡ permute (set a (n / 8) (bit_xor (get_or a (n / 8) 0) w)) → sponge r 0 ≡ absorbed s (before ++ bs)
  word_full r m er = ap (λ (x : List ℕ). sponge x 0) (er ∙ ap permute word_same) ∙ sym (full_in bs a n (omega (arith, long)) hn) ∙ word_then

  pub word_next : (n + 8 ≡ 136 → ⊥) → sponge (set a (n / 8) (bit_xor (get_or a (n / 8) 0) w)) (n + 8) ≡ absorbed s (before ++ bs)
  word_next m =
      let room : n + 8 < 136 = omega (arith, m) in
      ap₂ sponge word_same (ap (λ (k : ℕ). n + k) (sym long)) ∙ sym (part_in bs a n (omega (arith, long))) ∙ word_then

-- ---- words one after the other

pub joined_append : (ws vs : List (List ℕ)) → joined_parts (ws ++ vs) ≡ joined_parts ws ++ joined_parts vs
unfolding joined_parts
joined_append [] vs = refl
joined_append (w ∷ ws) vs = rw (joined_append ws vs, append_assoc)

pub joined_more : (ws : List (List ℕ)) (i : ℕ) → i < length ws → joined_parts (take (i + 1) ws) ≡ joined_parts (take i ws) ++ get_or ws i []
unfolding joined_parts
joined_more ws i h = rw (add-one, take-suc ws i [] h, joined_append (take i ws), append-nil)

pub joined_all : (ws : List (List ℕ)) (i : ℕ) → i ≡ length ws → joined_parts (take i ws) ≡ joined_parts ws
joined_all ws i e = ap joined_parts (rw e (take-length ws))

pub word_bytes : (ws : List (List ℕ)) (i : ℕ) → Bytes (joined_parts ws) → Bytes (get_or ws i [])
unfolding joined_parts
word_bytes [] i h = tt
word_bytes (w ∷ ws) zero h = (bytes_parts w (joined_parts ws) h).0
word_bytes (w ∷ ws) (suc i) h = word_bytes ws i (bytes_parts w (joined_parts ws) h).1

-- a string cut into words
pub words_joined : (k : ℕ) (xs : List ℕ) → joined_parts (first_chunks 8 k xs) ≡ take (k * 8) xs
unfolding joined_parts
words_joined zero xs = refl
words_joined (suc k) xs = let e : suc k * 8 ≡ 8 + k * 8 = omega arith in rw (words_joined k (drop 8 xs), e, ← take-add 8 (k * 8) xs)

-- ---- a part in three: the bytes that end a begun word, the words, and what is left

-- after the bytes that end the word that was begun, a word begins
pub word_begins : (s t : Sponge) (p : List ℕ) (k : ℕ) → Sound s → k ≡ (8 - s.place % 8) % 8 → k ≤ length p → t ≡ absorbed s (take k p)
    → Sound t × (t.place % 8 ≡ 0)
word_begins s t p k h e l et =
    let r : Sound (absorbed s (take k p)) × ((absorbed s (take k p)).place ≡ (s.place + length (take k p)) % 136) = absorbed_at s (take k p) h in
    let n : t.place ≡ (s.place + k) % 136 =
    ap (λ (x : Sponge). x.place) et ∙ r.1 ∙ ap (λ (m : ℕ). (s.place + m) % 136) (length-take-le k p l) in
    (subst Sound (sym et) r.0, omega arith)

pub three_parts : (s t u v : Sponge) (p first middle rest : List ℕ) → t ≡ absorbed s first → u ≡ absorbed t middle → v ≡ absorbed u rest → (first ++ middle) ++ rest ≡ p
    → v ≡ absorbed s p
three_parts s t u v p first middle rest et eu ev e =
    ev
    ∙ ap (λ (x : Sponge). absorbed x rest) (eu ∙ ap (λ (x : Sponge). absorbed x middle) et ∙ sym (absorbed_append s first middle))
    ∙ sym (absorbed_append s (first ++ middle) rest)
    ∙ ap (absorbed s) e

pub parted : (p : List ℕ) (k m : ℕ) → (take k p ++ take m (drop k p)) ++ drop m (drop k p) ≡ p
parted p k m = rw (append_assoc, take-append-drop m (drop k p), take-append-drop k p)

-- the whole words of a string, and what is left behind them, are the string, whichever way it was named
pub chunked : (x xs : List ℕ) (ws : List (List ℕ)) (left : List ℕ) → ws ≡ first_chunks 8 (length x / 8) x → left ≡ drop (length x / 8 * 8) x → x ≡ xs
    → joined_parts ws ++ left ≡ xs
chunked x xs ws left ew el e = (λ i. (ap joined_parts ew ∙ words_joined (length x / 8) x) i ++ el i) ∙ take-append-drop (length x / 8 * 8) x ∙ e

pub chunks_bytes : (x : List ℕ) (ws : List (List ℕ)) → ws ≡ first_chunks 8 (length x / 8) x → Bytes x → Bytes (joined_parts ws)
chunks_bytes x ws e h = subst Bytes (sym (ap joined_parts e ∙ words_joined (length x / 8) x)) (bytes_take (length x / 8 * 8) x h)

-- what `finish` leaves in the lanes, where p is 0x01 at its place
pub padded_lanes : (s : Sponge) (p : ℕ) → p ≡ 0x01 * 2 ^ (8 * (s.place % 8)) % 2 ^ 64
    → set (set s.lanes (s.place / 8) (bit_xor (get_or s.lanes (s.place / 8) 0) p)) 16
    (bit_xor (get_or (set s.lanes (s.place / 8) (bit_xor (get_or s.lanes (s.place / 8) 0) p)) 16 0) 0x8000000000000000)
    ≡ xor_byte (xor_byte s.lanes s.place 0x01) 135 0x80
padded_lanes s p e = ap (λ (x : ℕ). xor_byte (set s.lanes (s.place / 8) (bit_xor (get_or s.lanes (s.place / 8) 0) x)) 135 0x80) e
