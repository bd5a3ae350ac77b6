-- What a part of the code leaves that puts text behind what is written already.
use Rattle.std.specs.Prelude.{List, ◌≡◌, ℕ, ◌+◌, length}
use Rattle.moving.specs.Moving.{over}
use Rattle.listing.specs.declared.field.Text.{Text}

-- t is s with v from `at`, and the next byte goes to `behind`
pub record Put (s : List ℕ) (at : ℕ) (v t : List ℕ) (behind : ℕ) : Type 0 where
  pub bytes : t ≡ over s at v
  pub next : behind ≡ at + length v
  pub size : length t ≡ length s

-- of a text in a buffer: v is put where the text ended, and the buffer is the one that it was
pub record Added (s : Text) (v : List ℕ) (t : Text) : Type 0 where
  pub put : Put s.out.now s.at v t.out.now t.at
  pub buffer : t.out.ghost_name ≡ s.out.ghost_name
