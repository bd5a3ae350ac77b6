-- Each contract determines its function: two buffers at exit that it allows are equal.
use Rattle.std.specs.Prelude.{◌≡◌, List, ℕ, replicate}
use Rattle.std.proofs.Common.{sym, ◌∙◌}
use Rattle.octets.specs.Number.{bytes_of}
use Rattle.moving.specs.Moving.{placed, lowered, raised, inserted}

-- a number of any type, at that type's width
pub write_determined : {T : Type 0} (width : ℕ) (value : T → ℕ) (s : List ℕ) (at : ℕ) (n : T) (t t' : List ℕ)
    → t ≡ placed s at (bytes_of width (value n)) → t' ≡ placed s at (bytes_of width (value n)) → t ≡ t'
write_determined width value s at n t t' p q = p ∙ sym q

pub put_determined : (s : List ℕ) (at : ℕ) (v t t' : List ℕ) → t ≡ placed s at v → t' ≡ placed s at v → t ≡ t'
put_determined s at v t t' p q = p ∙ sym q

pub clear_determined : (s : List ℕ) (at n : ℕ) (t t' : List ℕ) → t ≡ placed s at (replicate n 0) → t' ≡ placed s at (replicate n 0) → t ≡ t'
clear_determined s at n t t' p q = p ∙ sym q

pub lower_determined : (s : List ℕ) (from to n : ℕ) (t t' : List ℕ) → t ≡ lowered s from to n → t' ≡ lowered s from to n → t ≡ t'
lower_determined s from to n t t' p q = p ∙ sym q

pub raise_determined : (s : List ℕ) (at end n : ℕ) (t t' : List ℕ) → t ≡ raised s at end n → t' ≡ raised s at end n → t ≡ t'
raise_determined s at end n t t' p q = p ∙ sym q

pub insert_determined : (s : List ℕ) (at end : ℕ) (v t t' : List ℕ) → t ≡ inserted s at end v → t' ≡ inserted s at end v → t ≡ t'
insert_determined s at end v t t' p q = p ∙ sym q
