-- The rules that a stamp must pass, in their order.
use Rattle.std.specs.Prelude.{Bool, cond, ◌&&◌, List, ℕ, eqb, ltb, length, Result, Ok, Err}
use Rattle.std.specs.Ordering.{is_eq}
use Rattle.answers.specs.Number.{done, answer_number}
use Rattle.octets.specs.Order.{byte_order}
use Rattle.postage.specs.declared.rules.StampError.{StampError}
use Rattle.postage.specs.declared.rules.StampError.TheVariants.{BadList, WrongLength, NoBatch, OtherBucket, IndexPast, NotOwner}
use Rattle.batches.specs.Batch.{records, well_listed, find, owner_of, depth_of}
use Rattle.postage.specs.Stamp.{stamp_length, batch_in, bucket_in, index_in, bucket_of, slots_of}

-- document 01's number for each answer
abbrev pub error_number : StampError → ℕ
error_number BadList = 15
error_number WrongLength = 10
error_number NoBatch = 16
error_number OtherBucket = 17
error_number IndexPast = 18
error_number NotOwner = 19

abbrev pub stamp_number : Result (Unit {0}) StampError → ℕ
stamp_number = answer_number done error_number

-- a stamp passes where no rule is broken
abbrev pub Passes : Result (Unit {0}) StampError
Passes = Ok tt

-- a rule that is kept leads on to the next, and one that is broken answers
abbrev pub rule : Bool → StampError → Result (Unit {0}) StampError → Result (Unit {0}) StampError
rule kept broken next = cond kept next (Err broken)

-- 17: the bucket is the address's
unfoldable pub in_bucket : List ℕ → List ℕ → Bool
in_bucket address stamp = eqb (bucket_in stamp) (bucket_of address)

-- 18: the index is below the slots of a bucket
unfoldable pub in_slots : List ℕ → List ℕ → Bool
in_slots batch stamp = ltb (index_in stamp) (slots_of (depth_of batch))

-- 19: the account is the batch's owner
unfoldable pub is_owner : List ℕ → List ℕ → Bool
is_owner batch account = is_eq (byte_order account (owner_of batch))

-- rules 17 to 19, under the stamp's batch
unfoldable pub judged : List ℕ → List ℕ → List ℕ → List ℕ → Result (Unit {0}) StampError
judged batch address stamp account =
    rule (in_bucket address stamp) OtherBucket
    (rule (in_slots batch stamp) IndexPast
    (rule (is_owner batch account) NotOwner
    Passes))

-- rules 16 to 19; `batch` is the record with the stamp's batch id, no bytes where there is none
unfoldable pub rules : List ℕ → List ℕ → List ℕ → List ℕ → Result (Unit {0}) StampError
rules list address stamp account =
    let batch = find (batch_in stamp) (records list) in
    rule (ltb 0 (length batch)) NoBatch (judged batch address stamp account)

-- the list first, whole; then the lengths; then the rules
unfoldable pub checked : List ℕ → List ℕ → List ℕ → List ℕ → Result (Unit {0}) StampError
checked list address stamp account =
    rule (well_listed list) BadList
    (rule (eqb (length address) 32 && (eqb (length stamp) stamp_length && eqb (length account) 20)) WrongLength
    (rules list address stamp account))
