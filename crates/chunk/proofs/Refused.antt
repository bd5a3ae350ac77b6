-- A refusal hands back zeros for a digest. Over any prefix.
use Rattle.std.specs.Prelude.{Result, Ok, Err, List, ◌≡◌, refl, ℕ, replicate}
use Rattle.answers.specs.Number.{digest_or_zeros}
use Rattle.merkle.specs.Refusal.{Refusal, done_is_none}
use Rattle.chunk.specs.declared.addresses.AddressError.{AddressError}
use Rattle.chunk.specs.Answer.{address_number, addressed, anchored_addressed}

abbrev Zeros : Result (List ℕ) AddressError → Type 0
Zeros r = Refusal (address_number r) → digest_or_zeros r ≡ replicate 32 0

zeros : (r : Result (List ℕ) AddressError) → Zeros r
zeros (Ok digest) h = done_is_none h
zeros (Err error) h = refl

pub address_refused : (prefix span chunk : List ℕ) (r : Result (List ℕ) AddressError) → r ≡ addressed prefix span chunk
    → Refusal (address_number r) → digest_or_zeros r ≡ replicate 32 0
address_refused prefix span chunk r e = zeros r

pub anchored_address_refused : (anchor span chunk : List ℕ) (r : Result (List ℕ) AddressError) → r ≡ anchored_addressed anchor span chunk
    → Refusal (address_number r) → digest_or_zeros r ≡ replicate 32 0
anchored_address_refused anchor span chunk r e = zeros r
