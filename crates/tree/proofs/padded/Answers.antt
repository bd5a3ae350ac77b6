-- `tree::padded` meets its contract.
use Rattle.std.proofs.Common.{◌++◌, List, ℕ, length, drop, replicate, ap, ◌∙◌, arith}
use Rattle.merkle.proofs.Stretch.{pad_laid}
use Rattle.tree.proofs.padded.Goals as goal

pub returns : goal.returns
returns c = ap (λ (s : List ℕ). s ++ drop (length c.args.part.now) (replicate 32 0)) c.copy_from_slice.ensures.after ∙ pad_laid 32 c.args.part.now (omega arith)
