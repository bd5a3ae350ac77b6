-- The field fits, so it is put, and the byte behind it is stored.
use mathlib.Core.Path.{refl}
use native.Mathlib.Omega.{arith}
use Rattle.listing.proofs.Puts
use Rattle.listing.proofs.field.Text.field.Goals as goal

pub returns : goal.returns
returns c = let a = c.args in
    record { put = rw c.put.ensures (Puts.field_put a.self.now.out.now a.self.now.at a.field.now a.end (omega arith)); buffer = refl }
