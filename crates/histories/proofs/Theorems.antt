-- The sentences of specs/Theorems.antt, proved.
use mathlib.Core.Path.{◌≡◌, refl, sym, ap, ◌∙◌, subst}
use mathlib.Core.List.{List, [], ◌∷◌}
use Prim.Native.Nat.{ℕ}
use lib.ListN.{length}
use Rattle.settling.specs.Book.{State, overfull, good}
use Rattle.settling.specs.History.{fresh, hear, valid, settled}
use Rattle.settling.specs.Meaning.{Each, Settles}
use Rattle.settling.proofs.Theorems as theorems
use Rattle.settling.proofs.Histories.{settled_same, valid_over}
use Rattle.book.specs.Shape.{shape}
use Rattle.book.specs.Layout.{count_in, WellFormed}
use Rattle.book.specs.Lawful.{Lawful}
use Rattle.book.specs.Book.{Book, in_state, held_by, read, write}
use Rattle.opening.specs.Open.{fresh_book}
use Rattle.histories.specs.Histories.{Offer, ByteOffer, Openable, after, heard, passing, opened, settled_bytes}
use Rattle.histories.specs.Theorems.{Histories, HistoriesByMembers, SameMembersSameBytes, CountIsRecords, AlwaysWellFormed, Answers, RefusedChangesNothing, VeryRecord, NearnessOfSlots, OutsideTheDepth, OverfullForEver, RoomIsUsed}
use Rattle.book.proofs.Roundtrip.{write_well_formed, read_write}
use Rattle.reserve.proofs.Ways.{bytes_after, way_overfull}
use Rattle.histories.proofs.Heard.{lawful_fresh, heard_hear, lawful_hear}
use Rattle.histories.proofs.Answered as answered
use Rattle.histories.proofs.Outside.{near_offer, outside_below, below_outside}
use Rattle.book.proofs.Cuts
use Rattle.histories.proofs.Room.{records_there, room_used}
use Rattle.histories.proofs.Heard.{flag_there}

module _ (overlay : List ℕ) (capacity starting : ℕ) (batches : List ℕ) (s : List Offer) (openable : Openable overlay capacity starting) (byte : Each ByteOffer s) where
  abbrev b : Book
  b = fresh_book overlay capacity starting

  abbrev end : State (List ℕ)
  end = settled (shape overlay capacity) starting (valid (passing batches) s)

  settles_to : hear (shape overlay capacity) (passing batches) (good starting []) s ≡ end
  unfolding fresh
  settles_to = theorems.histories (shape overlay capacity) (passing batches) starting s openable.depth

  lawful_end : Lawful (in_state b end)
  lawful_end = subst (λ c. Lawful (in_state b c)) settles_to (lawful_hear batches b (good starting []) s (lawful_fresh overlay capacity starting openable) byte)

  ended : heard batches (opened overlay capacity starting) s ≡ settled_bytes overlay capacity starting batches s
  ended = heard_hear batches b (good starting []) s (lawful_fresh overlay capacity starting openable) byte ∙ ap (λ (c : State (List ℕ)). write (in_state b c)) settles_to

  state_there : (read (heard batches (opened overlay capacity starting) s)).state ≡ end
  state_there = ap (λ (t : List ℕ). (read t).state) ended ∙ ap (λ (x : Book). x.state) (read_write (in_state b end) lawful_end)

  by_members : Settles (shape overlay capacity) starting (valid (passing batches) s) (read (heard batches (opened overlay capacity starting) s)).state
  unfolding fresh
  by_members = rw (state_there ∙ sym settles_to) (theorems.histories_by_members (shape overlay capacity) (passing batches) starting s openable.depth)

  formed_end : WellFormed (heard batches (opened overlay capacity starting) s)
  formed_end = subst WellFormed (sym ended) (write_well_formed (in_state b end) lawful_end).0

  counted : count_in (heard batches (opened overlay capacity starting) s) ≡ length (held_by end)
  counted = ap count_in ended ∙ go end lawful_end
    where
      go : (c : State (List ℕ)) → Lawful (in_state b c) → count_in (write (in_state b c)) ≡ length (held_by c)
      go (good d l) p = sym (Cuts.counted (write (in_state b (good d l)))) ∙ ap length (records_there b d l p)
      go overfull p = ((write_well_formed (in_state b overfull) p).0.burst (flag_there (in_state b overfull))).1

pub histories : Histories
histories = ended

pub histories_by_members : HistoriesByMembers
histories_by_members = by_members

pub always_well_formed : AlwaysWellFormed
always_well_formed = formed_end

pub count_is_records : CountIsRecords
count_is_records = counted

pub same_members_same_bytes : SameMembersSameBytes
same_members_same_bytes overlay capacity starting batches s t openable bs bt f g =
    histories overlay capacity starting batches s openable bs
    ∙ ap (λ (c : State (List ℕ)). write (in_state (fresh_book overlay capacity starting) c))
    (settled_same (shape overlay capacity) starting (valid (passing batches) s) (valid (passing batches) t) (valid_over (passing batches) s t f) (valid_over (passing batches) t s g))
    ∙ sym (histories overlay capacity starting batches t openable bt)

pub answers : Answers
answers batches book o n byte ob = answered.answers_table batches book o byte ob n

pub refused_changes_nothing : RefusedChangesNothing
refused_changes_nothing batches book o byte ob = (answered.refused_same batches book o byte ob, answered.same_refused batches book o byte ob)

pub very_record : VeryRecord
very_record batches book o byte ob = (answered.very_held batches book o byte ob, answered.held_very batches book o byte ob)

pub nearness_of_slots : NearnessOfSlots
nearness_of_slots = near_offer

pub outside_the_depth : OutsideTheDepth
outside_the_depth batches book o byte ob = (outside_below batches book o byte ob, below_outside batches book o byte ob)

pub overfull_for_ever : OverfullForEver
unfolding heard
overfull_for_ever batches book [] w z = refl
overfull_for_ever batches book (o ∷ s) w z =
    let same : after batches book o ≡ book = ap bytes_after (way_overfull book batches o.address o.stamp o.account w z) in
    rw same (overfull_for_ever batches book s w z)

pub room_is_used : RoomIsUsed
room_is_used = room_used
