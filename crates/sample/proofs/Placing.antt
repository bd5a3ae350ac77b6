-- Where a pair belongs, looked for from the front; and the first sixteen once it stands there.
use mathlib.Core.Path.{◌≡◌, refl, sym, ap, ◌∙◌}
use mathlib.Core.List.{List, [], ◌∷◌, ◌++◌, append_assoc}
use Prim.Native.Nat.{ℕ, zero, suc, ◌+◌, ◌*◌, ◌≤◌, ◌<◌, min}
use native.Mathlib.Decide.{dec_le}
use native.Mathlib.Omega.{arith}
use lib.ListN.{length, take, drop, take-append-drop, drop_of_length-le, length-append, length-drop}
use lib.Seq.{take_all, take_at, drop_at, take-add, drop-drop, length-take-le}
use Rattle.octets.specs.Order.{byte_order}
use Rattle.moving.specs.Moving.{inserted}
use Rattle.std.specs.declared.cmp.Ordering.{Ordering}
use Rattle.std.specs.declared.cmp.Ordering.TheVariants.{Less, Equal, Greater}
use Rattle.octets.specs.Pieces.{pieces}
use Rattle.octets.proofs.Pieces.{length_pieces, pieces_take, pieces_from, pieces_front}
use Rattle.moving.proofs.Pieces.{pieces_inserted}
use Rattle.std.specs.Prelude.{Some, None}
use Rattle.sample.specs.Sample.{standing, entered}
use Rattle.sample.specs.Inside.{Belongs}

entered_nil : (p : List ℕ) → entered p [] ≡ p ∷ []
unfolding entered
entered_nil p = refl

entered_at : (p q : List ℕ) (l : List (List ℕ)) (o : Ordering) → byte_order p q ≡ o → entered p (q ∷ l) ≡ standing o p q l (entered p l)
unfolding entered
entered_at p q l o e = ap (λ (x : Ordering). standing x p q l (entered p l)) e

-- ---- the search: all before place i are smaller

abbrev pub Smaller : ℕ → List ℕ → List (List ℕ) → Type 0
Smaller i p l = entered p l ≡ take i l ++ entered p (drop i l)

module _ (p : List ℕ) (n : ℕ) (s : List ℕ) (i : ℕ) (so_far : Smaller i p (pieces 64 n s)) where
  pub found_end : n ≤ i → entered p (pieces 64 n s) ≡ take i (pieces 64 n s) ++ (p ∷ drop i (pieces 64 n s))
  found_end h =
      let none : drop i (pieces 64 n s) ≡ [] = drop_of_length-le (pieces 64 n s) {i = i} (omega (arith, length_pieces 64 n s)) in
      so_far ∙ ap (λ (t : List (List ℕ)). take i (pieces 64 n s) ++ t) (ap (entered p) none ∙ entered_nil p ∙ ap (λ (t : List (List ℕ)). p ∷ t) (sym none))

  module _ (inside : i < n) where
    stands : (o : Ordering) → byte_order p (take 64 (drop (64 * i) s)) ≡ o
        → entered p (drop i (pieces 64 n s)) ≡ standing o p (take 64 (drop (64 * i) s)) (drop (i + 1) (pieces 64 n s)) (entered p (drop (i + 1) (pieces 64 n s)))
    stands o e = ap (entered p) (pieces_from 64 i n s inside) ∙ entered_at p (take 64 (drop (64 * i) s)) (drop (i + 1) (pieces 64 n s)) o e

    pub found_less : byte_order p (take 64 (drop (64 * i) s)) ≡ Less → entered p (pieces 64 n s) ≡ take i (pieces 64 n s) ++ (p ∷ drop i (pieces 64 n s))
    found_less e =
        so_far ∙ ap (λ (t : List (List ℕ)). take i (pieces 64 n s) ++ t) (stands Less e ∙ ap (λ (t : List (List ℕ)). p ∷ t) (sym (pieces_from 64 i n s inside)))

    pub found_same : byte_order p (take 64 (drop (64 * i) s)) ≡ Equal → entered p (pieces 64 n s) ≡ pieces 64 n s
    found_same e =
        so_far ∙ ap (λ (t : List (List ℕ)). take i (pieces 64 n s) ++ t) (stands Equal e ∙ sym (pieces_from 64 i n s inside)) ∙ take-append-drop i (pieces 64 n s)

    pub found_more : byte_order p (take 64 (drop (64 * i) s)) ≡ Greater → Smaller (i + 1) p (pieces 64 n s)
    found_more e =
        let l = pieces 64 n s in
        let q = take 64 (drop (64 * i) s) in
        let one : take (i + 1) l ≡ take i l ++ (q ∷ []) = take-add i 1 l ∙ ap (λ (t : List (List ℕ)). take i l ++ take 1 t) (pieces_from 64 i n s inside) in
        so_far
        ∙ ap (λ (t : List (List ℕ)). take i l ++ t) (stands Greater e)
        ∙ sym (append_assoc (take i l) (q ∷ []) (entered p (drop (i + 1) l)))
        ∙ ap (λ (t : List (List ℕ)). t ++ entered p (drop (i + 1) l)) (sym one)

-- the pairs from place i on are still to be compared, of those that stand in the front of the buffer
pub record Sought (p front : List ℕ) (held : ℕ) (left : List ℕ) (width i : ℕ) : Type 0 where
  pub wide : width ≡ 64
  pub ahead : left ≡ drop (64 * i) front
  pub reached : i ≤ held
  pub smaller : Smaller i p (pieces 64 held front)

module _ (p best : List ℕ) (held : ℕ) (room : 64 * held ≤ length best) where
  abbrev front : List ℕ
  front = take (64 * held) best

  all : length front ≡ 64 * held
  all = length-take-le (64 * held) best room

  same : pieces 64 held front ≡ pieces 64 held best
  same = pieces_front 64 held best room

  pub sought_starts : (left : List ℕ) (width i : ℕ) → left ≡ front → width ≡ 64 → i ≡ 0 → Sought p front held left width i
  sought_starts left width i e f at = record {
    wide = f;
    ahead = rw at e;
    reached = omega arith;
    smaller = let start : Smaller 0 p (pieces 64 held front) = refl in rw at start;
  }

  module _ (left : List ℕ) (width i : ℕ) (w : Sought p front held left width i) where
    pub sought_out : length left < width → Belongs (Some held) p (pieces 64 held best)
    sought_out short =
        let none : held ≤ i = omega (arith, all, w.wide, ap length w.ahead ∙ length-drop (64 * i) front) in
        let end : i ≡ held = omega (arith, w.reached) in
        let belongs = found_end p held front i w.smaller none in
        (omega (arith, length_pieces 64 held best), rw (same, end) at belongs)

    module _ (other later : List ℕ) (cut : left ≡ other ++ later) (long : length other ≡ width) where
      inside : i < held
      inside = omega (arith, all, w.wide, w.reached, ap length w.ahead ∙ length-drop (64 * i) front, ap length cut ∙ length-append other later)

      next : other ≡ take 64 (drop (64 * i) front)
      next = sym (take_at other later 64 (long ∙ w.wide)) ∙ ap (take 64) (sym cut ∙ w.ahead)

      pub sought_less : (place : ℕ) → place ≡ i → byte_order p other ≡ Less → Belongs (Some place) p (pieces 64 held best)
      sought_less place at e =
          let belongs = found_less p held front i w.smaller inside (ap (byte_order p) (sym next) ∙ e) in
          (omega (arith, inside, length_pieces 64 held best), rw (same, ← at) at belongs)

      pub sought_same : byte_order p other ≡ Equal → Belongs None p (pieces 64 held best)
      sought_same e =
          let belongs = found_same p held front i w.smaller inside (ap (byte_order p) (sym next) ∙ e) in
          (omega arith, rw same at belongs)

      pub sought_more : (wide further : ℕ) → wide ≡ width → further ≡ i + 1 → byte_order p other ≡ Greater → Sought p front held later wide further
      sought_more wide further same at e =
          let past : 64 * i + 64 ≡ 64 * further = omega arith in
          record {
            wide = same ∙ w.wide;
            ahead = sym (drop_at other later 64 (long ∙ w.wide)) ∙ ap (drop 64) (sym cut ∙ w.ahead) ∙ drop-drop 64 (64 * i) front ∙ ap (λ (n : ℕ). drop n front) past;
            reached = omega (arith, inside);
            smaller = rw at (found_more p held front i w.smaller inside (ap (byte_order p) (sym next) ∙ e));
          }

-- ---- the first n + 1, once a pair stands at place j

take_placed : {A : Type 0} (n j : ℕ) (p : A) (l : List A) → j ≤ n → j ≤ length l → take (suc n) (take j l ++ (p ∷ drop j l)) ≡ take j (take n l) ++ (p ∷ drop j (take n l))
take_placed n zero p l h k = refl
take_placed n (suc j) p [] h k = absurd (omega arith)
take_placed zero (suc j) p (x ∷ l) h k = absurd (omega arith)
take_placed {A} (suc n) (suc j) p (x ∷ l) h k = ap (λ (t : List A). x ∷ t) (take_placed n j p l (omega arith) (omega arith))

first_fifteen : (held last : ℕ) (s : List ℕ) → last ≡ min held 15 → take 15 (pieces 64 held s) ≡ pieces 64 last s
first_fifteen held last s e = by (dec_le held 15)
  where
    by : Dec (held ≤ 15) → take 15 (pieces 64 held s) ≡ pieces 64 last s
    by (yes h) =
        let same : held ≡ last = omega arith in
        take_all 15 (pieces 64 held s) (omega (arith, length_pieces 64 held s)) ∙ ap (λ (m : ℕ). pieces 64 m s) same
    by (no h) =
        let same : last ≡ 15 = omega arith in
        pieces_take 64 15 held s (omega arith) ∙ ap (λ (m : ℕ). pieces 64 m s) (sym same)

pub enter_placed : (s p : List ℕ) (held place last : ℕ) → length s ≡ 1024 → length p ≡ 64 → held ≤ 16 → place ≤ 15 → place ≤ length (pieces 64 held s) → last ≡ min held 15
    → entered p (pieces 64 held s) ≡ take place (pieces 64 held s) ++ (p ∷ drop place (pieces 64 held s))
    → pieces 64 (last + 1) (inserted s (64 * place) (64 * last) p) ≡ take 16 (entered p (pieces 64 held s))
enter_placed s p held place last ls lp h low inside e belongs =
    let count = length_pieces 64 held s in
    let same = first_fifteen held last s e in
    pieces_inserted 64 s p place last (omega arith) (omega arith) lp
    ∙ ap (λ (t : List (List ℕ)). take place t ++ (p ∷ drop place t)) (sym same)
    ∙ sym (take_placed 15 place p (pieces 64 held s) low inside)
    ∙ ap (take 16) (sym belongs)

-- past the sixteenth it is not taken
pub enter_past : (s p : List ℕ) (held place : ℕ) → held ≤ 16 → 15 < place → place ≤ length (pieces 64 held s)
    → entered p (pieces 64 held s) ≡ take place (pieces 64 held s) ++ (p ∷ drop place (pieces 64 held s))
    → pieces 64 held s ≡ take 16 (entered p (pieces 64 held s))
enter_past s p held place h high inside belongs =
    let l = pieces 64 held s in
    let count = length_pieces 64 held s in
    let full : place ≡ 16 = omega arith in
    let all : take place l ≡ l = take_all place l (omega arith) in
    sym (ap (take 16) belongs ∙ take_at (take place l) (p ∷ drop place l) 16 (length-take-le place l inside ∙ full) ∙ all)

pub enter_held : (s p : List ℕ) (held : ℕ) → held ≤ 16 → entered p (pieces 64 held s) ≡ pieces 64 held s → pieces 64 held s ≡ take 16 (entered p (pieces 64 held s))
enter_held s p held h same = sym (ap (take 16) same ∙ take_all 16 (pieces 64 held s) (omega (arith, length_pieces 64 held s)))
