-- When each answer of a stamp's check is given, as sentences.
use Rattle.std.specs.Prelude.{◌≡◌, List, ℕ, ◌<◌, length, Result, Ok, Err}
use Rattle.postage.specs.declared.rules.StampError.{StampError}
use Rattle.postage.specs.declared.rules.StampError.TheVariants.{BadList, WrongLength, NoBatch, OtherBucket, IndexPast, NotOwner}
use Rattle.batches.specs.Batch.{WellListed, Listed, records, find, owner_of, depth_of}
use Rattle.postage.specs.Stamp.{stamp_length, batch_in, bucket_in, index_in, bucket_of, slots_of}

pub record Lengths (address stamp account : List ℕ) : Type 0 where
  pub of_address : length address ≡ 32
  pub of_stamp : length stamp ≡ stamp_length
  pub of_account : length account ≡ 20

-- what the rule behind each refusal asks
abbrev pub Kept : List ℕ → List ℕ → List ℕ → List ℕ → StampError → Type 0
Kept list address stamp account BadList = WellListed list
Kept list address stamp account WrongLength = Lengths address stamp account
Kept list address stamp account NoBatch = Listed list (batch_in stamp)
Kept list address stamp account OtherBucket = bucket_in stamp ≡ bucket_of address
Kept list address stamp account IndexPast = index_in stamp < slots_of (depth_of (find (batch_in stamp) (records list)))
Kept list address stamp account NotOwner = account ≡ owner_of (find (batch_in stamp) (records list))

-- the rules, in their order: a refusal is given where its own is broken and all before it are kept, and a stamp passes where all are kept
abbrev pub Given : (StampError → Type 0) → Result (Unit {0}) StampError → Type 0
Given kept (Err BadList) = kept BadList → ⊥
Given kept (Err WrongLength) = kept BadList × (kept WrongLength → ⊥)
Given kept (Err NoBatch) = kept BadList × kept WrongLength × (kept NoBatch → ⊥)
Given kept (Err OtherBucket) = kept BadList × kept WrongLength × kept NoBatch × (kept OtherBucket → ⊥)
Given kept (Err IndexPast) = kept BadList × kept WrongLength × kept NoBatch × kept OtherBucket × (kept IndexPast → ⊥)
Given kept (Err NotOwner) = kept BadList × kept WrongLength × kept NoBatch × kept OtherBucket × kept IndexPast × (kept NotOwner → ⊥)
Given kept (Ok done) = kept BadList × kept WrongLength × kept NoBatch × kept OtherBucket × kept IndexPast × kept NotOwner
