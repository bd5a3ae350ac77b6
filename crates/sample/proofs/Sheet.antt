-- Worked examples, computed from the definitions alone, for the boundaries of document 01's sentences. An edit of a definition that keeps
-- the laws' words but moves a boundary meets an answer here.
use mathlib.Core.Path.{◌≡◌, refl}
use mathlib.Core.List.{List, [], ◌∷◌, ◌++◌}
use Prim.Native.Nat.{ℕ, zero, suc}
use lib.ListN.{length, replicate}
use Rattle.octets.specs.Order.{byte_order}
use Rattle.sample.specs.Sample.{entered, gathered, sixteen, written}

-- n pairs, the greatest first
pairs : ℕ → List (List ℕ)
pairs zero = []
pairs (suc n) = (n ∷ []) ∷ pairs n

-- Ascending, each once, and sixteen at most; one anchored address with two addresses is two pairs.
sixteen_sheet :
    (sixteen (pairs 3 ++ pairs 3) ≡ (0 ∷ []) ∷ (1 ∷ []) ∷ (2 ∷ []) ∷ [])
    × (length (sixteen (pairs 15 ++ pairs 15)) ≡ 15)
    × (length (sixteen (pairs 16)) ≡ 16)
    × (sixteen (pairs 17) ≡ sixteen (pairs 16))
    × (sixteen ((7 ∷ 2 ∷ []) ∷ (7 ∷ 1 ∷ []) ∷ []) ≡ (7 ∷ 1 ∷ []) ∷ (7 ∷ 2 ∷ []) ∷ [])
    -- the address is written first
    × (written ((replicate 32 1 ++ replicate 32 2) ∷ []) ≡ replicate 32 2 ++ replicate 32 1)
unfolding pairs sixteen gathered entered byte_order written
sixteen_sheet = (refl, refl, refl, refl, refl, refl)
