-- The sentences of specs/Theorems.antt, proved.
use mathlib.Core.Path.{◌≡◌, sym, ap, ◌∙◌, subst}
use mathlib.Core.Logic.{◌⊎◌, inl}
use mathlib.Core.List.{List, [], ◌++◌, map}
use Prim.Native.Nat.{ℕ}
use lib.ListN.{length}
use Rattle.keccak.specs.Collision.{Collision}
use Rattle.merkle.proofs.Collide.{Among, among_left, among_right, ◌>>=◌}
use Rattle.draw.specs.Answer.{Done}
use Rattle.shelf.specs.Cell.{Cell, own_address, pair_of}
use Rattle.draw.specs.Shelf.{cells_hashed, cells_on, shelf_answer}
use Rattle.sample.specs.Sample.{sixteen, written, commitment_of, commitment_hashed}
use Rattle.draw.specs.Draw.{addresses_in, cells_drawn, pairs_drawn, sixteen_drawn, draw_hashed}
use Rattle.draw.specs.Theorems.{DrawAnswers, EachHashesToItsRecord, TheSixteenSmallest, SixteenOnce, EachDifferentPairOnce, OrderDoesNotMatter, OneAnchorOneHash, OneHashOneSample}
use Rattle.draw.proofs.Shelves.{shelf_done, shelves_same}
use Rattle.sample.proofs.Gathering.{all_from, all_ascending, gathered_has, sixteen_same, sixteen_smallest}
use Rattle.sample.proofs.Chosen.{smallest_once}
use Rattle.sample.proofs.Laying.{commitment_same}
use Rattle.draw.proofs.Answered.{draw_good, drawn_commitment, drawn_sample, addresses_length, sixteen_sized}
use Rattle.draw.proofs.Tabled.{answers_table}

pub draw_answers : DrawAnswers
draw_answers book shelf anchor sample n p byte = answers_table book shelf anchor sample byte n p

-- ---- the cells are as many as the records

counted : (book shelf : List ℕ) → cells_drawn book shelf ≡ cells_on (length (addresses_in book)) shelf
unfolding cells_drawn
counted book shelf = ap (λ (n : ℕ). cells_on n shelf) (sym (addresses_length book))

pub each_hashes_to_its_record : EachHashesToItsRecord
each_hashes_to_its_record book shelf anchor sample e =
    ap (λ (cells : List Cell). map own_address cells) (counted book shelf) ∙ shelf_done 0 (addresses_in book) shelf (draw_good book shelf anchor sample e).read

pub the_sixteen_smallest : TheSixteenSmallest
unfolding sixteen_drawn
the_sixteen_smallest book shelf anchor sample e = sixteen_smallest (pairs_drawn book shelf anchor) (draw_good book shelf anchor sample e).enough

pub sixteen_once : SixteenOnce
sixteen_once pairs others chosen picked same = smallest_once pairs others chosen picked (λ p. (same p).0) (λ p. (same p).1)

pub each_different_pair_once : EachDifferentPairOnce
each_different_pair_once pairs = (all_ascending pairs, λ p. (all_from pairs p, gathered_has [] pairs p))

pub order_does_not_matter : OrderDoesNotMatter
order_does_not_matter pairs others same = sixteen_same pairs others (λ p. (same p).0) (λ p. (same p).1)

-- ---- two draws

cells_hashed_lem : (book shelf anchor : List ℕ) → Among (cells_hashed anchor (cells_on (length (addresses_in book)) shelf)) (draw_hashed book shelf anchor)
unfolding draw_hashed
cells_hashed_lem book shelf anchor m h =
    let inside : Among (cells_hashed anchor (cells_on (length (addresses_in book)) shelf)) (cells_hashed anchor (cells_drawn book shelf)) =
    subst (λ (cells : List Cell). Among (cells_hashed anchor cells) (cells_hashed anchor (cells_drawn book shelf))) (counted book shelf) (λ n k. k) in
    among_left (cells_hashed anchor (cells_drawn book shelf)) (commitment_hashed (sixteen_drawn book shelf anchor)) m (inside m h)

commitment_hashed_lem : (book shelf anchor : List ℕ) → Among (commitment_hashed (sixteen_drawn book shelf anchor)) (draw_hashed book shelf anchor)
unfolding draw_hashed
commitment_hashed_lem book shelf anchor m h = among_right (cells_hashed anchor (cells_drawn book shelf)) (commitment_hashed (sixteen_drawn book shelf anchor)) m h

sixteen_is : (book shelf anchor : List ℕ) → sixteen_drawn book shelf anchor ≡ sixteen (map (pair_of anchor) (cells_on (length (addresses_in book)) shelf))
unfolding sixteen_drawn pairs_drawn
sixteen_is book shelf anchor = ap (λ (cells : List Cell). sixteen (map (pair_of anchor) cells)) (counted book shelf)

-- the same pairs are gathered, from any two shelves beside the same addresses
pairs_same : (book shelf book' shelf' anchor : List ℕ) (hashed : List (List ℕ)) → addresses_in book ≡ addresses_in book'
    → shelf_answer 0 (addresses_in book) shelf ≡ Done → shelf_answer 0 (addresses_in book') shelf' ≡ Done
    → Among (draw_hashed book shelf anchor) hashed → Among (draw_hashed book' shelf' anchor) hashed
    → (sixteen_drawn book shelf anchor ≡ sixteen_drawn book' shelf' anchor) ⊎ Collision hashed
pairs_same book shelf book' shelf' anchor hashed one e f w w' =
    let there : shelf_answer 0 (addresses_in book) shelf' ≡ Done = ap (λ (l : List (List ℕ)). shelf_answer 0 l shelf') one ∙ f in
    let cells : cells_on (length (addresses_in book)) shelf' ≡ cells_on (length (addresses_in book')) shelf' =
    ap (λ (l : List (List ℕ)). cells_on (length l) shelf') one in
    let within : Among (cells_hashed anchor (cells_on (length (addresses_in book)) shelf')) hashed =
    subst (λ (c : List Cell). Among (cells_hashed anchor c) hashed) (sym cells) (λ m h. w' m (cells_hashed_lem book' shelf' anchor m h)) in
    do
      same ← shelves_same anchor 0 (addresses_in book) shelf shelf' hashed e there (λ m h. w m (cells_hashed_lem book shelf anchor m h)) within
      inl (sixteen_is book shelf anchor ∙ ap sixteen same ∙ ap (λ (c : List Cell). sixteen (map (pair_of anchor) c)) cells ∙ sym (sixteen_is book' shelf' anchor))

pub one_anchor_one_hash : OneAnchorOneHash
one_anchor_one_hash book shelf sample book' shelf' sample' anchor one e f =
    let first = draw_hashed book shelf anchor in
    let second = draw_hashed book' shelf' anchor in
    do
      same ← pairs_same book shelf book' shelf' anchor (first ++ second) one
          (draw_good book shelf anchor sample e).read (draw_good book' shelf' anchor sample' f).read (among_left first second) (among_right first second)
      inl (drawn_commitment book shelf anchor sample e ∙ ap commitment_of same ∙ sym (drawn_commitment book' shelf' anchor sample' f))

pub one_hash_one_sample : OneHashOneSample
one_hash_one_sample book shelf anchor sample book' shelf' anchor' sample' e f h =
    let first = draw_hashed book shelf anchor in
    let second = draw_hashed book' shelf' anchor' in
    let x = sixteen_drawn book shelf anchor in
    let y = sixteen_drawn book' shelf' anchor' in
    do
      same ← commitment_same x y (first ++ second) (draw_good book shelf anchor sample e).enough (draw_good book' shelf' anchor' sample' f).enough
          (sixteen_sized book shelf anchor) (sixteen_sized book' shelf' anchor')
          (λ m k. among_left first second m (commitment_hashed_lem book shelf anchor m k)) (λ m k. among_right first second m (commitment_hashed_lem book' shelf' anchor' m k))
          (sym (drawn_commitment book shelf anchor sample e) ∙ h ∙ drawn_commitment book' shelf' anchor' sample' f)
      inl (same, drawn_sample book shelf anchor sample e ∙ ap written same ∙ sym (drawn_sample book' shelf' anchor' sample' f))
