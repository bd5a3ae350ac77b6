-- Two different messages with one digest, both among those that a named computation hashed.
use mathlib.Core.List.{List, Memᴰ}
use Rattle.std.specs.Prelude.{◌≡◌, ℕ}
use Rattle.keccak.specs.Hash.{keccak256}

pub record Collision (hashed : List (List ℕ)) : Type 0 where
  pub first : List ℕ
  pub second : List ℕ
  pub first_hashed : Memᴰ first hashed
  pub second_hashed : Memᴰ second hashed
  pub different : first ≡ second → ⊥
  pub one_digest : keccak256 first ≡ keccak256 second
