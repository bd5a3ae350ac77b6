-- The leading zeros of the xor of the two words are the shared bits of what they stand for.
use mathlib.Core.Path.{sym, ◌∙◌}
use Rattle.octets.proofs.Bytes.{bytes_known}
use Rattle.nearing.proofs.Nearing
use Rattle.nearing.proofs.near.near.Goals as goal

pub returns : goal.returns
returns c =
    let a = c.args in
    Nearing.near_given a.book.now (bytes_known a.book.now (λ n. (c.type_inv.book n).fits)) c.read.result c.read-2.result c.read-2.ensures
    a.given.now c.if-book-lt48.false c.if-given-ne145.false (bytes_known a.given.now (λ n. (c.type_inv.given n).fits)) c.read.ensures
    ∙ sym (Nearing.near_in_lem a.book.now a.given.now c.if-book-lt48.false c.if-given-ne145.false)
