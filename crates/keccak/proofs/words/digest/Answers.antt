-- The four words' bytes, one after the other, are the state's first.
use mathlib.Core.Path.{◌≡◌, ◌∙◌}
use mathlib.Core.List.{[], ◌∷◌, ◌++◌}
use Prim.Native.Nat.{ℕ, ◌/◌, ◌%◌, ◌^◌}
use native.Mathlib.Nat.{div-one}
use Rattle.std.specs.Int.{w64, to_le_bytes}
use Rattle.keccak.specs.Sponge.{digest_of}
use Rattle.keccak.proofs.words.digest.Goals as goal

-- as `byte_of` takes them
bytes : (x : ℕ) → to_le_bytes w64 x ≡ x / 1 % 256 ∷ x / 2 ^ 8 % 256 ∷ x / 2 ^ 16 % 256 ∷ x / 2 ^ 24 % 256 ∷ x / 2 ^ 32 % 256 ∷ x / 2 ^ 40 % 256 ∷ x / 2 ^ 48 % 256 ∷ x / 2 ^ 56 % 256 ∷ []
bytes x = rw div-one

pub returns : goal.returns
unfolding digest_of
returns c =
    let p = c.to_le_bytes.ensures ∙ bytes _ in
    let q = c.to_le_bytes-2.ensures ∙ bytes _ in
    let r = c.to_le_bytes-3.ensures ∙ bytes _ in
    let s = c.to_le_bytes-4.ensures ∙ bytes _ in
    c.copy_from_slice.ensures.after ∙ c.as_flattened.ensures.value ∙ (λ i. p i ++ (q i ++ (r i ++ (s i ++ []))))
