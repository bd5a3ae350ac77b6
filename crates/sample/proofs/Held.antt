-- The buffer of sixteen pairs: what it holds once a pair has entered, and what is handed out of it.
use mathlib.Core.Path.{◌≡◌, refl, sym, ap, ap₂, subst, ◌∙◌}
use mathlib.Core.Logic.{◌⊎◌, inl, inr, ⊎_elim}
use mathlib.Core.List.Memᴰ
use mathlib.Core.List.{List, [], ◌∷◌, ◌++◌, append_assoc, Memᴰ}
use Prim.Native.Nat.{ℕ, zero, suc, ◌+◌, ◌-◌, ◌*◌, ◌≤◌, ◌<◌, min}
use native.Mathlib.Nat.{mul-zero}
use native.Mathlib.Omega.{arith}
use lib.ListN.{length, take, drop, replicate, take-append-drop, length-append, length-take, length-drop}
use lib.Seq.{take_at, drop_at, drop-drop, length-take-le}
use borrow.Author.Tests.{le-leb, lt-leb, eq-eqb, ne_eqb}
use Rattle.moving.specs.Moving.{inserted}
use Rattle.std.specs.Prelude.{Ok}
use Rattle.octets.specs.Pieces.{pieces}
use Rattle.moving.proofs.Edits.{inserted_fits}
use Rattle.octets.proofs.Pieces.{length_pieces, pieces_more, pieces_none}
use Rattle.keccak.specs.Sponge.{joined_parts}
use Rattle.merkle.specs.Tree.{address_of}
use Rattle.chunk.specs.Answer.{addressed}
use Rattle.chunk.proofs.Answers.{addressed_done}
use Rattle.sample.specs.Sample.{entered, written, sample_span, commitment_of}
use Rattle.sample.specs.Kept.{kept, held_after, best_after, committed, written_over}
use Rattle.sample.proofs.Entering.{entered_from}
use Rattle.sample.proofs.Gathering.{take_member}
use Rattle.sample.proofs.Placing.{enter_placed}
use Rattle.sample.proofs.Laying.{Sized, sized_first, sized_rest}

-- ---- pieces joined, and what is joined in pieces

joined_pieces : (w n : ℕ) (s : List ℕ) → joined_parts (pieces w n s) ++ drop (w * n) s ≡ s
unfolding joined_parts
joined_pieces w zero s = rw (pieces_none w s, mul-zero w)
joined_pieces w (suc n) s =
    let e : w + w * n ≡ w * suc n = omega arith in
    let rest = joined_parts (pieces w n (drop w s)) in
    ap (λ (l : List (List ℕ)). joined_parts l ++ drop (w * suc n) s) (pieces_more w n s)
    ∙ append_assoc (take w s) rest (drop (w * suc n) s)
    ∙ ap (λ (t : List ℕ). take w s ++ (rest ++ t)) (sym (drop-drop (w * n) w s ∙ ap (λ (m : ℕ). drop m s) e))
    ∙ ap (λ (t : List ℕ). take w s ++ t) (joined_pieces w n (drop w s))
    ∙ take-append-drop w s

pieces_joined : (l : List (List ℕ)) (rest : List ℕ) → Sized l → pieces 64 (length l) (joined_parts l ++ rest) ≡ l
unfolding joined_parts
pieces_joined [] rest h = pieces_none 64 rest
pieces_joined (p ∷ l) rest h =
    let long = sized_first p l h in
    let tail = joined_parts l ++ rest in
    ap (pieces 64 (suc (length l))) (append_assoc p (joined_parts l) rest)
    ∙ pieces_more 64 (length l) (p ++ tail)
    ∙ ap₂ (λ (q : List ℕ) (m : List (List ℕ)). q ∷ m) (take_at p tail 64 long) (ap (pieces 64 (length l)) (drop_at p tail 64 long) ∙ pieces_joined l rest (sized_rest p l h))

joined_length : (l : List (List ℕ)) → Sized l → length (joined_parts l) ≡ 64 * length l
unfolding joined_parts
joined_length [] h = refl
joined_length (p ∷ l) h = length-append p (joined_parts l) ∙ omega (arith, sized_first p l h, joined_length l (sized_rest p l h))

pieces_sized : (n : ℕ) (s : List ℕ) → 64 * n ≤ length s → Sized (pieces 64 n s)
unfolding pieces
pieces_sized zero s h p m = absurd (Memᴰ.not-nil m)
pieces_sized (suc n) s h p m =
    ⊎_elim (λ e. ap length e ∙ length-take-le 64 s (omega arith)) (λ k. pieces_sized n (drop 64 s) (omega (arith, length-drop 64 s)) p k) (Memᴰ.cases_cons m)

-- ---- a pair enters

-- bytes behind an insertion are as they were
behind_inserted : (s : List ℕ) (at end : ℕ) (v : List ℕ) → at ≤ end → end + length v ≤ length s → drop (end + length v) (inserted s at end v) ≡ drop (end + length v) s
behind_inserted s at end v h k =
    let moved = take (end - at) (drop at s) in
    let front = take at s ++ v ++ moved in
    let long : length front ≡ end + length v = simp (length-append, length-take, length-drop) (omega arith) in
    ap (drop (end + length v)) (inserted_fits s at end v h k) ∙ drop_at front (drop (end + length v) s) (end + length v) long

module _ (pair : List ℕ) (held : ℕ) (best : List ℕ) where
  pub other_buffer : (length best ≡ 1024 → ⊥) → (held ≡ held_after pair held best) × (best ≡ best_after pair held best)
  unfolding held_after best_after
  other_buffer h = rw (ne_eqb _ _ h) (refl, refl)

  module _ (room : length best ≡ 1024) where
    pub other_pair : (length pair ≡ 64 → ⊥) → (held ≡ held_after pair held best) × (best ≡ best_after pair held best)
    unfolding held_after best_after
    other_pair h = rw (eq-eqb _ _ room, ne_eqb _ _ h) (refl, refl)

    module _ (whole : length pair ≡ 64) where
      pub too_many : 16 < held → (held ≡ held_after pair held best) × (best ≡ best_after pair held best)
      unfolding held_after best_after
      too_many h = rw (eq-eqb _ _ room, eq-eqb _ _ whole, lt-leb _ _ h) (refl, refl)

      module _ (few : held ≤ 16) where
        -- what is held and stands behind it says all
        pub entered_is : (r : ℕ) (t : List ℕ) → pieces 64 r t ≡ kept pair held best → drop (64 * r) t ≡ drop (64 * r) best → (r ≡ held_after pair held best) × (t ≡ best_after pair held best)
        unfolding held_after best_after
        entered_is r t e f =
            let count : r ≡ length (kept pair held best) = sym (length_pieces 64 r t) ∙ ap length e in
            rw (eq-eqb _ _ room, eq-eqb _ _ whole, le-leb _ _ few) (
              count,
              sym (joined_pieces 64 r t) ∙ ap₂ (λ (l : List (List ℕ)) (s : List ℕ). joined_parts l ++ s) e (f ∙ ap (λ (n : ℕ). drop (64 * n) best) count),
            )

        pub entered_placed : (place last : ℕ) (t : List ℕ) → place ≤ 15 → place ≤ length (pieces 64 held best) → last ≡ min held 15
            → entered pair (pieces 64 held best) ≡ take place (pieces 64 held best) ++ (pair ∷ drop place (pieces 64 held best)) → t ≡ inserted best (64 * place) (64 * last) pair
            → (last + 1 ≡ held_after pair held best) × (t ≡ best_after pair held best)
        entered_placed place last t low inside e belongs put =
            let end : 64 * last + length pair ≡ 64 * (last + 1) = omega (arith, whole) in
            let behind = behind_inserted best (64 * place) (64 * last) pair (omega (arith, length_pieces 64 held best)) (omega arith) in
            entered_is (last + 1) t
            (ap (pieces 64 (last + 1)) put ∙ enter_placed best pair held place last room whole few low inside e belongs)
            (ap (drop (64 * (last + 1))) put ∙ subst (λ (n : ℕ). drop n (inserted best (64 * place) (64 * last) pair) ≡ drop n best) end behind)

        kept_sized : Sized (kept pair held best)
        kept_sized p m = go (entered_from pair (pieces 64 held best) p (take_member 16 (entered pair (pieces 64 held best)) p m))
          where
            go : (p ≡ pair) ⊎ Memᴰ p (pieces 64 held best) → length p ≡ 64
            go (inl e) = ap length e ∙ whole
            go (inr k) = pieces_sized held best (omega arith) p k

        -- and the buffer holds them
        pub entered_holds : (r : ℕ) (t : List ℕ) → r ≡ held_after pair held best → t ≡ best_after pair held best → (length t ≡ 1024) × ((r ≤ 16) × (pieces 64 r t ≡ kept pair held best))
        unfolding held_after best_after
        entered_holds r t = rw (eq-eqb _ _ room, eq-eqb _ _ whole, le-leb _ _ few) (λ e f. given e f)
          where
            most : length (kept pair held best) ≤ 16
            most = omega (arith, length-take 16 (entered pair (pieces 64 held best)))

            given : r ≡ length (kept pair held best) → t ≡ joined_parts (kept pair held best) ++ drop (64 * length (kept pair held best)) best
                → (length t ≡ 1024) × ((r ≤ 16) × (pieces 64 r t ≡ kept pair held best))
            given e f = (
              ap length f ∙ length-append (joined_parts (kept pair held best)) (drop (64 * length (kept pair held best)) best)
                  ∙ omega (arith, joined_length (kept pair held best) kept_sized, length-drop (64 * length (kept pair held best)) best, most),
              (
                omega (arith, most),
                ap₂ (pieces 64) e f ∙ pieces_joined (kept pair held best) (drop (64 * length (kept pair held best)) best) kept_sized,
              ),
            )

-- ---- what is handed out

pub hashed : (after : List ℕ) → length after ≡ 1024 → addressed [] sample_span after ≡ Ok (address_of [] sample_span after)
hashed after long = addressed_done [] sample_span after refl (omega arith)

module _ (best : List ℕ) (held : ℕ) (sample : List ℕ) where
  abbrev Nothing : Type 0
  Nothing = (replicate 32 0 ≡ committed best held sample) × (sample ≡ written_over best held sample)

  pub not_sixteen : (held ≡ 16 → ⊥) → Nothing
  unfolding committed written_over
  not_sixteen h = rw (ne_eqb _ _ h) (refl, refl)

  module _ (all : held ≡ 16) where
    pub not_held : (length best ≡ 1024 → ⊥) → Nothing
    unfolding committed written_over
    not_held h = rw (eq-eqb _ _ all, ne_eqb _ _ h) (refl, refl)

    module _ (room : length best ≡ 1024) where
      pub not_lent : (length sample ≡ 1024 → ⊥) → Nothing
      unfolding committed written_over
      not_lent h = rw (eq-eqb _ _ all, eq-eqb _ _ room, ne_eqb _ _ h) (refl, refl)

      module _ (lent : length sample ≡ 1024) where
        pub sixteen_out : (committed best held sample ≡ commitment_of (pieces 64 16 best)) × (written_over best held sample ≡ written (pieces 64 16 best))
        unfolding committed written_over
        sixteen_out = rw (eq-eqb _ _ all, eq-eqb _ _ room, eq-eqb _ _ lent) (refl, refl)

        pub handed_out : (after digest : List ℕ) → length after ≡ 1024 → after ≡ written (pieces 64 16 best) → addressed [] sample_span after ≡ Ok digest
            → (digest ≡ committed best held sample) × (after ≡ written_over best held sample)
        unfolding commitment_of
        handed_out after digest long out given =
            let same : digest ≡ address_of [] sample_span after = cc (hashed after long) in
            (same ∙ ap (address_of [] sample_span) out ∙ sym sixteen_out.0, out ∙ sym sixteen_out.1)
