-- What an edit of a good book's bytes starts from, and what it leaves.
use Rattle.std.specs.Prelude.{List, ◌≡◌, ℕ, ◌≤◌, length}
use Rattle.settling.specs.Book.{good}
use Rattle.settling.specs.Meaning.{Each}
use Rattle.book.specs.Book.{Book, in_state, write}

-- s are the bytes of b, good at depth d with the records l; each part has the length of its place
pub record Stands (s : List ℕ) (b : Book) (d : ℕ) (l : List (List ℕ)) : Type 0 where
  pub bytes : s ≡ write (in_state b (good d l))
  pub overlay : length b.overlay ≡ 32
  pub records : Each (λ r. length r ≡ 145) l
  pub count : length l ≤ b.capacity
  pub most : b.capacity ≤ 65536
