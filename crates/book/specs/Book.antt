-- The state that a well-formed book stands for, and back.
use Rattle.std.specs.Prelude.{cond, List, [], ◌∷◌, ◌++◌, ℕ, ◌-◌, ◌*◌, eqb, length, replicate}
use Rattle.octets.specs.Number.{bytes_of}
use Rattle.settling.specs.Book.{State, overfull, good}
use Rattle.book.specs.Layout.{mark, state_in, starting_in, depth_in, overlay_in, capacity_in, records_in, laid}

-- a book as a value
pub record Book : Type 0 where
  pub starting : ℕ
  pub overlay : List ℕ
  pub capacity : ℕ
  pub state : State (List ℕ)

-- the same book in another state
abbrev pub in_state : Book → State (List ℕ) → Book
in_state b c = record { starting = b.starting; overlay = b.overlay; capacity = b.capacity; state = c }

unfoldable pub read : List ℕ → Book
read s =
    record {
      starting = starting_in s;
      overlay = overlay_in s;
      capacity = capacity_in s;
      state = cond (eqb (state_in s) 1) overfull (good (depth_in s) (records_in s));
    }

-- state byte, depth and records as they stand in the bytes; "An overfull book has depth 16 and count 0."
abbrev pub flag_of : State (List ℕ) → ℕ
flag_of overfull = 1
flag_of (good d l) = 0

abbrev pub depth_of : State (List ℕ) → ℕ
depth_of overfull = 16
depth_of (good d l) = d

abbrev pub held_by : State (List ℕ) → List (List ℕ)
held_by overfull = []
held_by (good d l) = l

unfoldable pub write : Book → List ℕ
write b =
    mark ++ (0 ∷ 1 ∷ flag_of b.state ∷ b.starting ∷ depth_of b.state ∷ (b.overlay
    ++ (bytes_of 4 b.capacity
    ++ (bytes_of 4 (length (held_by b.state))
    ++ (laid (held_by b.state)
    ++ replicate (145 * (b.capacity - length (held_by b.state))) 0)))))
