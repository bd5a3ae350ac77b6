-- Sixteen pairs at most, one behind the other in a buffer of 1,024 bytes, 64 to a pair: what a further pair leaves there, and what is handed
-- out of it.
use Rattle.std.specs.Prelude.{Bool, cond, ◌&&◌, List, ◌++◌, ℕ, ◌*◌, eqb, leb, length, take, drop, replicate}
use Rattle.octets.specs.Pieces.{pieces}
use Rattle.keccak.specs.Sponge.{joined_parts}
use Rattle.sample.specs.Sample.{entered, written, commitment_of}

-- the pairs that are held, once this one is among them
abbrev pub kept : List ℕ → ℕ → List ℕ → List (List ℕ)
kept pair held best = take 16 (entered pair (pieces 64 held best))

-- a pair of 64 bytes, and at most sixteen held in 1,024
abbrev pub enters : List ℕ → ℕ → List ℕ → Bool
enters pair held best = eqb (length best) 1024 && (eqb (length pair) 64 && leb held 16)

unfoldable pub held_after : List ℕ → ℕ → List ℕ → ℕ
held_after pair held best = cond (enters pair held best) (length (kept pair held best)) held

-- the pairs from the front; the bytes behind them are as they were
unfoldable pub best_after : List ℕ → ℕ → List ℕ → List ℕ
best_after pair held best =
    cond (enters pair held best)
    (joined_parts (kept pair held best) ++ drop (64 * length (kept pair held best)) best)
    best

-- sixteen held in 1,024 bytes, and 1,024 lent for them
abbrev pub complete : List ℕ → ℕ → List ℕ → Bool
complete best held sample = eqb held 16 && (eqb (length best) 1024 && eqb (length sample) 1024)

unfoldable pub committed : List ℕ → ℕ → List ℕ → List ℕ
committed best held sample = cond (complete best held sample) (commitment_of (pieces 64 16 best)) (replicate 32 0)

-- the lent buffer afterwards
unfoldable pub written_over : List ℕ → ℕ → List ℕ → List ℕ
written_over best held sample = cond (complete best held sample) (written (pieces 64 16 best)) sample
