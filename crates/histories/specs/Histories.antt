-- Histories on bytes: a fresh book, and offers of any bytes as they come.
use Rattle.std.specs.Prelude.{cond, List, [], ◌∷◌, ℕ, ◌≤◌, ◌≡◌, eqb, length}
use Rattle.std.proofs.Math.Option.{Option, none, some}
use Rattle.octets.specs.Bytes.{Bytes}
use Rattle.settling.specs.History.{valid, settled}
use Rattle.records.specs.Record.{record_of}
use Rattle.book.specs.Shape.{shape}
use Rattle.book.specs.Book.{in_state, write}
use Rattle.opening.specs.Open.{fresh_book}
use Rattle.reserve.specs.Stamps.{stamp_answer}
use Rattle.reserve.specs.Offer.{offered}

-- an offer as it comes
pub record Offer : Type 0 where
  pub address : List ℕ
  pub stamp : List ℕ
  pub account : List ℕ

-- its buffers hold bytes
pub record ByteOffer (o : Offer) : Type 0 where
  pub address : Bytes o.address
  pub stamp : Bytes o.stamp

-- what `open` accepts
pub record Openable (overlay : List ℕ) (capacity starting : ℕ) : Type 0 where
  pub size : length overlay ≡ 32
  pub bytes : Bytes overlay
  pub least : 16 ≤ capacity
  pub most : capacity ≤ 65536
  pub depth : starting ≤ 16

module _ (batches : List ℕ) where
  -- the book's bytes after an offer, and the number it was answered
  abbrev pub after : List ℕ → Offer → List ℕ
  after book o = (offered book batches o.address o.stamp o.account).bytes

  abbrev pub answer : List ℕ → Offer → ℕ
  answer book o = (offered book batches o.address o.stamp o.account).number

  -- after all of them, one after another
  unfoldable pub heard : List ℕ → List Offer → List ℕ
  heard book [] = book
  heard book (o ∷ s) = heard (after book o) s

  -- the record of an offer that passes 15, 10 and 16 to 19
  unfoldable pub passing : Offer → Option (List ℕ)
  passing o = cond (eqb (stamp_answer batches o.address o.stamp o.account) 0) (some (record_of o.address o.stamp)) none

module _ (overlay : List ℕ) (capacity starting : ℕ) where
  -- what `open` writes
  abbrev pub opened : List ℕ
  opened = write (fresh_book overlay capacity starting)

  -- the bytes of what offers settle to: of all that pass, the highest rank of each slot, at the least depth at which they fit
  abbrev pub settled_bytes : List ℕ → List Offer → List ℕ
  settled_bytes batches s = write (in_state (fresh_book overlay capacity starting) (settled (shape overlay capacity) starting (valid (passing batches) s)))
