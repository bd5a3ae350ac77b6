-- The level falls at each call of `tree::root` by itself.
use Rattle.tree.proofs.+root.Given as goal

abbrev pub decreases-root : goal.decreases-root
decreases-root l = l.level
