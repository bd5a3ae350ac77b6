-- Six fields, one behind the other, each where it stands in the record.
use mathlib.Core.Path.{refl, sym, ap, ◌∙◌}
use native.Mathlib.Omega.{arith}
use lib.ListN.{take, drop}
use lib.Seq.{take-take}
use Rattle.octets.proofs.Numbers.{big_at_fits}
use Rattle.octets.proofs.Parts.{part_length}
use Rattle.nearness.specs.Near.{bits_in}
use Rattle.records.specs.Record.{address_in}
use Rattle.book.proofs.Fields
use Rattle.digits.specs.Field.{hex}
use Rattle.listing.specs.Line.{space, line, record_line}
use Rattle.listing.proofs.Puts
use Rattle.listing.proofs.line.put_record.Goals as goal

pub returns-clause-put : goal.returns-clause-put
unfolding record_line line
returns-clause-put c =
    let held = c.args.held.now in
    let near = c.from-3.ensures ∙ c.bits-bits.ensures ∙ ap bits_in c.nearness.ensures ∙ Fields.near_there (address_in held) c.args.overlay.now (part_length held 48 32 (omega arith)) c.told-overlay in
    Puts.field_then (hex (take 4 held)) (hex (take 4 held)) space refl (omega arith) c.hex.ensures.put
    (Puts.number_then space (c.from.ensures ∙ c.read.ensures ∙ Fields.bucket_there held c.told-held) (omega arith) c.number.ensures.put
    (Puts.number_then space (c.from-2.ensures ∙ c.read-2.ensures ∙ Fields.index_there held c.told-held) (omega arith) c.number-2.ensures.put
    (Puts.number_then space (c.read-3.ensures ∙ big_at_fits 8 held 40 (omega arith)) (omega arith) c.number-3.ensures.put
    (Puts.field_then (hex (take 4 (drop 48 held))) (hex (take 4 (address_in held))) space (ap hex (sym (take-take 4 32 (drop 48 held) (omega arith)))) (omega arith) c.hex-2.ensures.put
    (rw near at c.number-4.ensures.put)))))
