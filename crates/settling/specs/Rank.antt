-- Rank: which of two records of one slot stays. It is a parameter: write-once batches bring a second one, and nothing here asks which it is.
use Rattle.std.specs.Prelude.{ℕ, ◌≡◌, Bool, true, false, cond}

-- `beats a b`: a ranks higher than b. Inside one slot it is a strict total order; between two slots it may say anything.
pub record Rank {A : Type 0} (slot : A → ℕ) (beats : A → A → Bool) : Type 0 where
  pub irrefl : (a : A) → beats a a ≡ false
  pub trans : (a b c : A) → slot a ≡ slot b → slot b ≡ slot c → beats a b ≡ true → beats b c ≡ true → beats a c ≡ true
  pub total : (a b : A) → slot a ≡ slot b → beats a b ≡ false → beats b a ≡ false → a ≡ b

-- What a book is made over: a record's slot as a number, the rank, how many bits a slot shares with the overlay, the capacity, and the
-- greatest depth (16). Nearness is the slot's: a slot fixes 16 address bits, so all its chunks lie inside or outside together.
pub record Shape (A : Type 0) : Type 0 where
  pub slot : A → ℕ
  pub beats : A → A → Bool
  pub near : ℕ → ℕ
  pub capacity : ℕ
  pub top : ℕ
  pub rank : Rank slot beats

module _ {A : Type 0} (beats : A → A → Bool) where
  -- the higher rank of two, the first if they are equal
  unfoldable pub higher : A → A → A
  higher a b = cond (beats b a) b a
