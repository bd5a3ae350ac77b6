-- A lawful value's state is sound, and a sound state of fitting records makes a lawful value.
use mathlib.Core.Path.{◌≡◌}
use mathlib.Core.List.{List, [], ◌∷◌}
use Prim.Native.Nat.{ℕ, ◌≤◌}
use native.Mathlib.Omega.{arith}
use lib.ListN.{length}
use Rattle.octets.specs.Bytes.{Bytes}
use Rattle.nearness.specs.Bits.{shared_bits}
use Rattle.settling.specs.Book.{State, overfull, good}
use Rattle.settling.specs.Meaning.{Each, Every, Sound}
use Rattle.records.specs.Record.{slot, address_in, near_of, Fitting}
use Rattle.book.specs.Shape.{shape}
use Rattle.book.specs.Layout.{Rising}
use Rattle.book.specs.Book.{Book, depth_of, held_by}
use Rattle.book.specs.Lawful.{Lawful}
use Rattle.book.proofs.Slots.{near_inside, inside_near, rising_ascending, ascending_rising}

each_both : {A : Type 0} (P Q R : A → Type 0) → ((a : A) → P a → Q a → R a) → (l : List A) → Each P l → Each Q l → Each R l
each_both P Q R f [] p q = tt
each_both P Q R f (r ∷ l) p q = (f r p.0 q.0, each_both P Q R f l p.1 q.1)

module _ (overlay : List ℕ) (capacity : ℕ) where
  -- the records share at least d bits with the overlay
  abbrev Near : ℕ → List (List ℕ) → Type 0
  Near d l = Each (λ r. d ≤ shared_bits (address_in r) overlay) l

  sound : (c : State (List ℕ)) → length (held_by c) ≤ capacity → depth_of c ≤ 16 → Rising (held_by c) → Each Fitting (held_by c) → Near (depth_of c) (held_by c)
      → Sound (shape overlay capacity) c
  sound overfull n h r f i = tt
  sound (good d l) n h r f i =
      record {
        shallow = h;
        ascending = rising_ascending overlay capacity l r;
        inner = each_both Fitting (λ q. d ≤ shared_bits (address_in q) overlay) (λ q. d ≤ near_of overlay (slot q)) (λ q g k. near_inside overlay q g d h k) l f i;
        fits = n;
      }

  every : (c : State (List ℕ)) → Each Fitting (held_by c) → Every Fitting c
  every overfull f = tt
  every (good d l) f = f

  each : (c : State (List ℕ)) → Every Fitting c → Each Fitting (held_by c)
  each overfull f = tt
  each (good d l) f = f

  count : (c : State (List ℕ)) → Sound (shape overlay capacity) c → length (held_by c) ≤ capacity
  count overfull w = omega arith
  count (good d l) w = w.fits

  depth : (c : State (List ℕ)) → Sound (shape overlay capacity) c → depth_of c ≤ 16
  depth overfull w = omega arith
  depth (good d l) w = w.shallow

  rising : (c : State (List ℕ)) → Sound (shape overlay capacity) c → Rising (held_by c)
  unfolding Rising
  rising overfull w = tt
  rising (good d l) w = ascending_rising overlay capacity l w.ascending

  near : (c : State (List ℕ)) → Sound (shape overlay capacity) c → Every Fitting c → Near (depth_of c) (held_by c)
  near overfull w f = tt
  near (good d l) w f =
      each_both Fitting (λ q. d ≤ near_of overlay (slot q)) (λ q. d ≤ shared_bits (address_in q) overlay) (λ q g k. inside_near overlay q g d k) l f w.inner

module _ (b : Book) where
  pub lawful_sound : Lawful b → Sound (shape b.overlay b.capacity) b.state
  lawful_sound w = sound b.overlay b.capacity b.state w.count w.depth w.rising w.fitting w.near

  pub lawful_fitting : Lawful b → Every Fitting b.state
  lawful_fitting w = every b.overlay b.capacity b.state w.fitting

  pub sound_lawful : length b.overlay ≡ 32 → Bytes b.overlay → 16 ≤ b.capacity → b.capacity ≤ 65536 → b.starting ≤ depth_of b.state
      → Sound (shape b.overlay b.capacity) b.state → Every Fitting b.state → Lawful b
  sound_lawful size bytes least most started w f =
      record {
        size = size;
        bytes = bytes;
        least = least;
        most = most;
        count = count b.overlay b.capacity b.state w;
        started = started;
        depth = depth b.overlay b.capacity b.state w;
        rising = rising b.overlay b.capacity b.state w;
        fitting = each b.overlay b.capacity b.state f;
        near = near b.overlay b.capacity b.state w f;
      }
