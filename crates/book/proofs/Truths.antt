-- Tests joined by "and".
use mathlib.Core.Path.{◌≡◌, refl}
use mathlib.Core.Bool.{Bool, true, false, ◌&&◌, false≢true}

module _ {a b : Bool} where
  pub both : (a && b) ≡ true → (a ≡ true) × (b ≡ true)
  both = go a b
    where
      go : (p q : Bool) → (p && q) ≡ true → (p ≡ true) × (q ≡ true)
      go true q e = (refl, e)
      go false q e = absurd (false≢true e)

  pub joined : a ≡ true → b ≡ true → (a && b) ≡ true
  joined e f = rw e f

pub fails : (a b : Bool) → b ≡ false → (a && b) ≡ false
fails true b e = e
fails false b e = refl

-- the first of each pair, then the second
pub paired : (a b c d : Bool) → ((a && b) && (c && d)) ≡ (c && (a && (b && d)))
paired true true true d = refl
paired true true false d = refl
paired true false true d = refl
paired true false false d = refl
paired false b true d = refl
paired false b false d = refl
