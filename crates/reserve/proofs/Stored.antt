-- One record more, or another in its place: what the bytes of a book become.
use mathlib.Core.Path.{◌≡◌, refl, sym, ap, ◌∙◌}
use mathlib.Core.List.{List, ◌∷◌, ◌++◌, append_assoc}
use Prim.Native.Nat.{ℕ, suc, ◌+◌, ◌-◌, ◌*◌, ◌≤◌, ◌<◌}
use native.Mathlib.Omega.{arith}
use lib.ListN.{length, take, drop, set, replicate, length-append, length-drop, length-take, length-set, length-replicate, replicate-append-replicate}
use lib.Seq.{take_at, drop_at, take-append-add, drop-append-add, set_split}
use borrow.Author.Tests.{le-leb, eq-eqb}
use Rattle.octets.specs.Number.{bytes_of}
use Rattle.moving.specs.Moving.{over, placed, inserted}
use Rattle.octets.proofs.Numbers.{length_bytes_of}
use Rattle.moving.proofs.Edits.{placed_fits, inserted_fits, length_inserted}
use Rattle.settling.specs.Meaning.{Each}
use Rattle.book.specs.Layout.{laid}
use Rattle.book.specs.Book.{Book}
use Rattle.editing.specs.Edit.{added}
use Rattle.reserve.specs.Edit.{Stands}
use Rattle.book.proofs.Laid.{Sized, each_append, each_take, each_drop, each_set, laid_append, laid_cons, length_laid, take_laid, drop_laid}
use Rattle.book.proofs.Headed.{over_count, head, zeros, write_good}
use Rattle.reserve.proofs.Standing.{stands_bytes, stands_head, stands_length}

-- behind a header of 48 bytes
module _ (h m : List ℕ) (e : length h ≡ 48) (k : ℕ) where
  pub take_behind : take (48 + k) (h ++ m) ≡ h ++ take k m
  take_behind = rw (← e, take-append-add h m k)

  pub drop_behind : drop (48 + k) (h ++ m) ≡ drop k m
  drop_behind = rw (← e, drop-append-add h m k)

drop_zeros : (k m : ℕ) → drop k (replicate {A = ℕ} (k + m) 0) ≡ replicate m 0
drop_zeros k m = rw (← replicate-append-replicate {A = ℕ} k m 0) (drop_at (replicate k 0) (replicate m 0) k (length-replicate {A = ℕ} k 0))

-- where z follows the records
module _ (h : List ℕ) (l : List (List ℕ)) (z r : List ℕ) (n at : ℕ) (e : length h ≡ 48) (o : Each Sized l) (c : length l ≡ n) (p : at ≤ n) (q : length r ≡ 145) where
  in_list : at ≤ length l
  in_list = omega arith

  front : take (48 + 145 * at) (h ++ (laid l ++ z)) ≡ h ++ laid (take at l)
  front = take_behind h (laid l ++ z) e (145 * at) ∙ ap (λ (s : List ℕ). h ++ s) (take_laid l z o at in_list)

  rest : drop (48 + 145 * at) (h ++ (laid l ++ z)) ≡ laid (drop at l) ++ z
  rest = drop_behind h (laid l ++ z) e (145 * at) ∙ drop_laid l z o at in_list

  moved : take (48 + 145 * n - (48 + 145 * at)) (laid (drop at l) ++ z) ≡ laid (drop at l)
  moved =
      let m : length (drop at l) ≡ n - at = length-drop at l ∙ ap (λ (x : ℕ). x - at) c in
      let w : length (laid (drop at l)) ≡ 48 + 145 * n - (48 + 145 * at) = length_laid (drop at l) (each_drop Sized at l o) ∙ omega arith in
      take_at (laid (drop at l)) z (48 + 145 * n - (48 + 145 * at)) w

  behind : drop (48 + 145 * n + length r) (h ++ (laid l ++ z)) ≡ drop 145 z
  behind =
      let f : 48 + 145 * n + length r ≡ 48 + (length (laid l) + 145) = omega (arith, length_laid l o) in
      rw f (drop_behind h (laid l ++ z) e (length (laid l) + 145) ∙ drop-append-add (laid l) z 145)

  -- the record put in at its place, the others behind it moved up
  pub put_in : 145 ≤ length z → inserted (h ++ (laid l ++ z)) (48 + 145 * at) (48 + 145 * n) r ≡ h ++ (laid (take at l ++ (r ∷ drop at l)) ++ drop 145 z)
  put_in room =
      let w : length (h ++ (laid l ++ z)) ≡ 48 + (145 * n + length z) = simp length-append (omega (arith, length_laid l o)) in
      inserted_fits (h ++ (laid l ++ z)) (48 + 145 * at) (48 + 145 * n) r (omega arith) (omega arith)
      ∙ rw (front, rest, moved, behind, laid_append, laid_cons) (simp append_assoc)

-- another record in its place
pub put_over : (h : List ℕ) (l : List (List ℕ)) (z r : List ℕ) (n at : ℕ) → length h ≡ 48 → Each Sized l → length l ≡ n → at < n → length r ≡ 145
    → over (h ++ (laid l ++ z)) (48 + 145 * at) r ≡ h ++ (laid (set l at r) ++ z)
unfolding over
put_over h l z r n at e o c p q =
    let f : 48 + 145 * at + length r ≡ 48 + 145 * suc at = omega arith in
    rw (f, front h l z r n at e o c (omega arith) q, rest h l z r n (suc at) e o c p q, set_split l at r (omega arith), laid_append, laid_cons)
    (simp append_assoc)

module _ (s : List ℕ) (b : Book) (d : ℕ) (l : List (List ℕ)) (r : List ℕ) (at : ℕ) (w : Stands s b d l) (q : length r ≡ 145) where
  one_more : (n : ℕ) → length l ≡ n → at ≤ n → n < b.capacity
      → Stands (placed (inserted s (48 + 145 * at) (48 + 145 * n) r) 44 (bytes_of 4 (n + 1))) b d (take at l ++ (r ∷ drop at l))
  one_more n c p room =
      record {
        bytes = counted ∙ sym (write_good b d (take at l ++ (r ∷ drop at l)));
        overlay = w.overlay;
        records = each_append Sized (take at l) (r ∷ drop at l) (each_take Sized at l w.records) (q, each_drop Sized at l w.records);
        count = omega (arith, more);
        most = w.most;
      }
    where
      more : length (take at l ++ (r ∷ drop at l)) ≡ n + 1
      more = simp (length-append, length-take, length-drop) (omega arith)

      fewer : drop 145 (zeros b n) ≡ zeros b (n + 1)
      fewer =
          let f : 145 * (b.capacity - n) ≡ 145 + 145 * (b.capacity - (n + 1)) = omega arith in
          rw f (drop_zeros 145 (145 * (b.capacity - (n + 1))))

      moved_up : inserted s (48 + 145 * at) (48 + 145 * n) r ≡ head b d n ++ (laid (take at l ++ (r ∷ drop at l)) ++ zeros b (n + 1))
      moved_up =
          let z : 145 ≤ length (zeros b n) = rw length-replicate (omega arith) in
          rw (stands_bytes w, c, put_in (head b d n) l (zeros b n) r n at (stands_head w d n) w.records c p q z, fewer)

      counted : placed (inserted s (48 + 145 * at) (48 + 145 * n) r) 44 (bytes_of 4 (n + 1)) ≡ head b d (length (take at l ++ (r ∷ drop at l))) ++ (laid (take at l ++ (r ∷ drop at l)) ++ zeros b (length (take at l ++ (r ∷ drop at l))))
      counted =
          let there : 44 + length (bytes_of 4 (n + 1)) ≤ length (inserted s (48 + 145 * at) (48 + 145 * n) r) = omega (arith, length_bytes_of 4 (n + 1), length_inserted s (48 + 145 * at) (48 + 145 * n) r, stands_length w) in
          placed_fits (inserted s (48 + 145 * at) (48 + 145 * n) r) 44 (bytes_of 4 (n + 1)) there
          ∙ rw (moved_up, more) (over_count 0 b.starting d b.overlay b.capacity n (laid (take at l ++ (r ∷ drop at l)) ++ zeros b (n + 1)) w.overlay (n + 1))

  pub stands_added : (n : ℕ) → length l ≡ n → at ≤ n → n < b.capacity → Stands (added s n at r) b d (take at l ++ (r ∷ drop at l))
  unfolding added
  stands_added n c p room =
      let few : n ≤ 65535 = omega (arith, room, w.most) in
      let long : 193 + 145 * n ≤ length s = omega (arith, room, stands_length w) in
      rw (le-leb n 65535 few, le-leb at n p, eq-eqb (length r) 145 q, le-leb (193 + 145 * n) (length s) long) (one_more n c p room)

  pub replaced : (t : List ℕ) → t ≡ placed s (48 + 145 * at) r → at < length l → Stands t b d (set l at r)
  replaced t e p =
      record {
        bytes = e ∙ put ∙ sym (write_good b d (set l at r));
        overlay = w.overlay;
        records = each_set Sized at l r q w.records;
        count = omega (arith, length-set l at r, w.count);
        most = w.most;
      }
    where
      put : placed s (48 + 145 * at) r ≡ head b d (length (set l at r)) ++ (laid (set l at r) ++ zeros b (length (set l at r)))
      put =
          placed_fits s (48 + 145 * at) r (omega (arith, p, q, w.count, stands_length w))
          ∙ rw (stands_bytes w, length-set l at r) (put_over (head b d (length l)) l (zeros b (length l)) r (length l) at (stands_head w d (length l)) w.records refl p q)
