-- Each contract of this crate allows one result.
use Rattle.std.specs.Prelude.{List, ◌≡◌, ℕ}
use Rattle.std.proofs.Common.{◌∙◌, sym}
use Rattle.keccak.specs.declared.sponge.Sponge.{Sponge}
use Rattle.keccak.specs.Sponge.{fresh, usable, absorbed, finished}
use Rattle.keccak.specs.Hash.{keccak256}

pub new_determined : (r s : Sponge) → r ≡ fresh → s ≡ fresh → r ≡ s
new_determined r s p q = p ∙ sym q

pub absorb_determined : (self : Sponge) (part : List ℕ) (r s : Sponge) → r ≡ absorbed (usable self) part → s ≡ absorbed (usable self) part → r ≡ s
absorb_determined self part r s p q = p ∙ sym q

pub finish_determined : (self : Sponge) (r s : List ℕ) → r ≡ finished (usable self) → s ≡ finished (usable self) → r ≡ s
finish_determined self r s p q = p ∙ sym q

pub keccak256_determined : (message r s : List ℕ) → r ≡ keccak256 message → s ≡ keccak256 message → r ≡ s
keccak256_determined message r s p q = p ∙ sym q
