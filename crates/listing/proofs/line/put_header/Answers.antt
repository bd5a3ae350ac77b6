-- The fields of line one, one behind the other, each where it stands in the header.
use Prim.Native.Nat.{◌+◌, ◌≤◌}
use native.Mathlib.Nat.{le_of_eq}
use Rattle.octets.proofs.Parts.{part_length}
use mathlib.Core.Path.{refl, ◌∙◌}
use native.Mathlib.Omega.{arith}
use Rattle.octets.proofs.Numbers.{big_at_fits}
use Rattle.book.specs.Layout.{mark_in, state_in}
use Rattle.book.proofs.Fields
use Rattle.listing.specs.Line.{space, line, state_word, header_line}
use Rattle.listing.proofs.Puts
use Rattle.listing.proofs.line.put_header.Goals as goal

pub returns-clause-put : goal.returns-clause-put
unfolding header_line line
returns-clause-put c =
    let marked : c.field.new.self.at ≤ c.args.text.now.at + 4 = Puts.put_within (mark_in c.args.book.now) space 3 (le_of_eq (part_length c.args.book.now 0 3 (omega arith))) c.field.ensures.put in
    let version = c.from.ensures ∙ c.read.ensures ∙ big_at_fits 2 c.args.book.now 3 (omega arith) in
    let levels =
    rw (c.starting_depth.ensures, c.depth.ensures, c.count.ensures ∙ Fields.count_there c.args.book.now (omega arith), c.capacity.ensures ∙ Fields.capacity_there c.args.book.now (omega arith)) at
    c.put_levels.ensures.put in
    Puts.field_then (mark_in c.args.book.now) (mark_in c.args.book.now) space refl (omega arith) c.field.ensures
    (Puts.number_then space version (omega arith) c.number.ensures.put
    (Puts.field_then (state_word (state_in c.args.book.now)) (state_word (state_in c.args.book.now)) space refl (omega arith) c.put_state.ensures.put levels))
