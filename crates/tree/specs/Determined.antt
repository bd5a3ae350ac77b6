-- Each contract of this crate allows one result.
use Rattle.std.specs.Prelude.{List, ◌≡◌, ℕ}
use Rattle.std.proofs.Common.{◌∙◌, sym}
use Rattle.tree.specs.Root.{hash_of, root_of}

pub hash_determined : (prefix first second r s : List ℕ) → r ≡ hash_of prefix first second → s ≡ hash_of prefix first second → r ≡ s
hash_determined prefix first second r s p q = p ∙ sym q

pub root_of_determined : (prefix part : List ℕ) (level : ℕ) (r s : List ℕ) → r ≡ root_of prefix level part → s ≡ root_of prefix level part → r ≡ s
root_of_determined prefix part level r s p q = p ∙ sym q
