-- Each refusal is that of the part that fails.
use Prim.Native.Nat.{ℕ, ◌+◌, ◌*◌, ◌/◌, ◌≤◌}
use mathlib.Core.Path.{◌≡◌, sym, ap, ◌∙◌}
use mathlib.Core.Bool.{Bool, true}
use mathlib.Core.List.{List}
use native.Mathlib.Omega.{arith}
use lib.ListN.{length, take, drop}
use lib.Seq.{drop-drop}
use Rattle.std.specs.Simd.{first_chunks}
use Rattle.octets.specs.Number.{big_at}
use Rattle.octets.specs.Pieces.{pieces}
use Rattle.book.specs.Layout.{state_in, starting_in, depth_in, overlay_in, capacity_in, count_in, records_in}
use Rattle.wellformed.specs.Check.{labelled, sized, levelled, zeros}
use Rattle.wellformed.proofs.Tests.{both_hold}
use Rattle.wellformed.proofs.Tested.{sized_true}
use Rattle.book.proofs.Cuts.{records_cut}
use Rattle.book.proofs.Fields
use Rattle.wellformed.proofs.Verdicts
use Rattle.wellformed.proofs.check.check_book.Goals as goal
use Rattle.wellformed.proofs.check.check_book.Goals.{then-not-is_labelled-via-then-not-is_labelled, then-not-is_labelled-via-else-not-is_labelled+then-not-is_sized, then-not-is_labelled-via-else-not-is_labelled+else-not-is_sized+then-not-is_levelled}
use Rattle.wellformed.proofs.check.check_book.Goals.{then-not-records_stand-via-then-not-records_stand, then-not-records_stand-via-else-not-records_stand+then-not-is_zero}

-- what each part said, of the whole book
module _ (s header behind : List ℕ) (head : header ≡ take 48 s) (rest : behind ≡ drop 48 s) (h : 48 ≤ length s) (count : ℕ) (q : count ≡ big_at 4 header 44) where
  counted : count ≡ count_in s
  counted = q ∙ rw head (Fields.header_count s h)

  labels : (r : Bool) → r ≡ labelled header → r ≡ labelled s
  unfolding labelled
  labels r e = e ∙ rw (head, Fields.header_mark s, Fields.header_version s)

  sizes : (capacity : ℕ) (r : Bool) → capacity ≡ big_at 4 header 40 → r ≡ sized (length s) capacity count → r ≡ sized (length s) (capacity_in s) (count_in s)
  sizes capacity r p e =
      let c : capacity ≡ capacity_in s = p ∙ rw head (Fields.header_capacity s h) in
      e ∙ rw (c, counted)

  levels : (starting depth : ℕ) (r : Bool) → starting ≡ starting_in header → depth ≡ depth_in header → r ≡ levelled (state_in header) starting depth count
      → r ≡ levelled (state_in s) (starting_in s) (depth_in s) (count_in s)
  levels starting depth r p d e =
      let first : state_in header ≡ state_in s = rw head (Fields.header_byte s 5 (omega arith)) in
      let second : starting ≡ starting_in s = p ∙ rw head (Fields.header_byte s 6 (omega arith)) in
      let third : depth ≡ depth_in s = d ∙ rw head (Fields.header_byte s 7 (omega arith)) in
      e ∙ rw (first, second, third, counted)

  -- the records that are counted lie within the bytes
  inside : (capacity : ℕ) → capacity ≡ big_at 4 header 40 → true ≡ sized (length s) capacity count → (48 + 145 * count ≤ length s) × (count ≤ 65536)
  inside capacity p e =
      let f = sized_true _ _ _ (sym (sizes capacity true p e)) in
      (omega (arith, f.whole, f.within, counted), omega (arith, f.most, f.within, counted))

  stand : (held : List ℕ) (records : List (List ℕ)) (r : Bool) → 48 + 145 * count ≤ length s → held ≡ take (145 * count) behind → records ≡ first_chunks 145 (length held / 145) held
      → r ≡ both_hold (depth_in header) (overlay_in header) records → r ≡ both_hold (depth_in s) (overlay_in s) (records_in s)
  stand held records r k cut chunks e =
      let part : held ≡ take (145 * count) (drop 48 s) = cut ∙ ap (take (145 * count)) rest in
      let all : records ≡ records_in s =
      chunks ∙ ap (λ (l : List ℕ). first_chunks 145 (length l / 145) l) part ∙ records_cut s count k ∙ ap (λ (n : ℕ). pieces 145 n (drop 48 s)) counted in
      let depth : depth_in header ≡ depth_in s = rw head (Fields.header_byte s 7 (omega arith)) in
      let overlay : overlay_in header ≡ overlay_in s = rw head (Fields.header_overlay s) in
      e ∙ rw (depth, overlay, all)

  zero : (left : List ℕ) (r : Bool) → left ≡ drop (145 * count) behind → r ≡ zeros left → r ≡ zeros (drop (48 + 145 * count_in s) s)
  zero left r cut e = e ∙ rw (cut, rest, drop-drop (145 * count) 48 s, counted)

pub returns-in_default : goal.returns-in_default
returns-in_default c = sym (Verdicts.short c.args.book.now c.in_default.ensures.cases)

pub returns-then-not-is_labelled : goal.returns-then-not-is_labelled
returns-then-not-is_labelled c =
    let s = c.args.book.now in
    let f = c.in-Some.ensures.cases in
    let h : 48 ≤ length s = omega (arith, f.2) in
    elim c.then-not-is_labelled.branch [
      | then-not-is_labelled-via-then-not-is_labelled w ↦
          sym (Verdicts.not_labelled s (sym (labels s _ _ f.0 f.1 h _ c.count-records.ensures _ c.is_labelled.ensures) ∙ w.if-not-is_labelled.true))
      | then-not-is_labelled-via-else-not-is_labelled+then-not-is_sized w ↦
          sym (Verdicts.not_sized s (sym (sizes s _ _ f.0 f.1 h _ c.count-records.ensures _ _ w.capacity.ensures w.is_sized.ensures) ∙ w.if-not-is_sized.true))
      | then-not-is_labelled-via-else-not-is_labelled+else-not-is_sized+then-not-is_levelled w ↦
          sym
          (Verdicts.not_levelled s
          (sym (levels s _ _ f.0 f.1 h _ c.count-records.ensures _ _ _ w.starting_depth.ensures w.depth.ensures w.is_levelled.ensures) ∙ w.if-not-is_levelled.true))
    ]

pub overflow_mul-records : goal.overflow_mul-records
overflow_mul-records c =
    let f = c.in-Some.ensures.cases in
    let few = inside c.args.book.now _ _ f.0 f.1 (omega (arith, f.2)) _ c.count-records.ensures _ c.capacity.ensures c.if-not-is_sized.ensures in
    record { fits = omega (arith, few.1) }

pub split_at-requires : goal.split_at-requires
split_at-requires c =
    let f = c.in-Some.ensures.cases in
    let few = inside c.args.book.now _ _ f.0 f.1 (omega (arith, f.2)) _ c.count-records.ensures _ c.capacity.ensures c.if-not-is_sized.ensures in
    omega (arith, few.0, f.2)

pub returns-then-not-records_stand : goal.returns-then-not-records_stand
returns-then-not-records_stand c =
    let s = c.args.book.now in
    let f = c.in-Some.ensures.cases in
    let h : 48 ≤ length s = omega (arith, f.2) in
    let few = inside s _ _ f.0 f.1 h _ c.count-records.ensures _ c.capacity.ensures c.if-not-is_sized.ensures in
    elim c.then-not-records_stand.branch [
      | then-not-records_stand-via-then-not-records_stand w ↦
          sym
          (Verdicts.not_standing s
          (sym (stand s _ _ f.0 f.1 h _ c.count-records.ensures _ _ _ few.0 c.split_at.ensures.front c.as_chunks.ensures.front c.records_stand.ensures) ∙ w.if-not-records_stand.true))
      | then-not-records_stand-via-else-not-records_stand+then-not-is_zero w ↦
          sym (Verdicts.not_zero s (sym (zero s _ _ f.0 f.1 h _ c.count-records.ensures _ _ c.split_at.ensures.back w.is_zero.ensures) ∙ w.if-not-is_zero.true))
    ]

pub returns : goal.returns
returns c =
    let s = c.args.book.now in
    let f = c.in-Some.ensures.cases in
    let h : 48 ≤ length s = omega (arith, f.2) in
    let n = c.count-records.ensures in
    let few = inside s _ _ f.0 f.1 h _ n _ c.capacity.ensures c.if-not-is_sized.ensures in
    let labelled_so = labels s _ _ f.0 f.1 h _ n _ c.is_labelled.ensures in
    let sized_so = sizes s _ _ f.0 f.1 h _ n _ _ c.capacity.ensures c.is_sized.ensures in
    let levelled_so = levels s _ _ f.0 f.1 h _ n _ _ _ c.starting_depth.ensures c.depth.ensures c.is_levelled.ensures in
    let stand_so = stand s _ _ f.0 f.1 h _ n _ _ _ few.0 c.split_at.ensures.front c.as_chunks.ensures.front c.records_stand.ensures in
    let zero_so = zero s _ _ f.0 f.1 h _ n _ _ c.split_at.ensures.back c.is_zero.ensures in
    sym
    (Verdicts.passes s
    (sym labelled_so ∙ c.if-not-is_labelled.false)
    (sym sized_so ∙ c.if-not-is_sized.false)
    (sym levelled_so ∙ c.if-not-is_levelled.false)
    (sym stand_so ∙ c.if-not-records_stand.false)
    (sym zero_so ∙ c.if-not-is_zero.false))
