-- What std writes of a number is its bytes: the law that each number's type gives.
use mathlib.Core.Path.{◌≡◌, refl}
use mathlib.Core.List.{[], ◌∷◌, ◌++◌}
use Prim.Native.Nat.{ℕ, zero, suc, ◌/◌, ◌%◌, ◌^◌}
use native.Mathlib.Nat.{pow-succ', div-div-eq-div-mul}
use Rattle.std.specs.Int.{byte_at, bytes_high_first}
use Rattle.octets.specs.Number.{bytes_of}

byte_above : (k n : ℕ) → byte_at (suc k) n ≡ byte_at k (n / 256)
byte_above zero n = refl
byte_above (suc k) n = rw (pow-succ' 256 (suc k), ← div-div-eq-div-mul n 256 (256 ^ suc k))

high_last : (k n : ℕ) → bytes_high_first (suc k) n ≡ bytes_high_first k (n / 256) ++ (n % 256 ∷ [])
high_last zero n = refl
high_last (suc k) n = λ j. byte_above k n j ∷ high_last k n j

pub bytes_std : (k n : ℕ) → bytes_high_first k n ≡ bytes_of k n
unfolding bytes_of
bytes_std zero n = refl
bytes_std (suc k) n = rw (high_last k n, bytes_std k (n / 256))
