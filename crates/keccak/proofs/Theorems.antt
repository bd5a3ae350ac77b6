-- What a reader looks for in Keccak-256, each readable alone.
use mathlib.Core.Path.{◌≡◌, refl, ap, ◌∙◌, sym, subst}
use mathlib.Core.List.{List, [], ◌∷◌, ◌++◌, append_assoc, append-nil}
use Prim.Native.Nat.{ℕ, zero, suc, ◌≤◌}
use native.Mathlib.Omega.{arith}
use lib.ListN.{length, replicate}
use Rattle.octets.specs.Bytes.{Bytes}
use Rattle.tables.specs.Rules.{tab}
use Rattle.keccak.specs.declared.sponge.Sponge.{Sponge}
use Rattle.keccak.specs.Sponge.{fresh, usable, absorbed, absorbed_all, joined_parts, finished, digest_of, byte_of, Holds}
use Rattle.keccak.specs.Hash.{keccak256, textbook, blocks, block_count, padded}
use Rattle.keccak.proofs.Step.{absorbed_append, usable_in, usable_out, usable_at, absorbed_in}
use Rattle.keccak.proofs.Textbook.{hash_is, block_count_lem}

-- a message handed over in two parts is absorbed as the joined parts, from any state
pub parts_as_joined : (s : Sponge) (a b : List ℕ) → absorbed (usable (absorbed (usable s) a)) b ≡ absorbed (usable s) (a ++ b)
parts_as_joined s a b =
    ap (λ (t : Sponge). absorbed t b) (usable_in (absorbed (usable s) a) (absorbed_in (usable s) a (usable_at s)))
    ∙ sym (absorbed_append (usable s) a b)

-- a state whose place is 136 or more counts as a fresh one, whatever its lanes: in absorbing and in finishing
pub stale_absorbs_as_fresh : (s : Sponge) (m : List ℕ) → 136 ≤ s.place → absorbed (usable s) m ≡ absorbed fresh m
stale_absorbs_as_fresh s m h = ap (λ (t : Sponge). absorbed t m) (usable_out s h)

pub stale_finishes_as_fresh : (s : Sponge) → 136 ≤ s.place → finished (usable s) ≡ finished fresh
stale_finishes_as_fresh s h = ap finished (usable_out s h)

-- ---- a sponge that holds a message: what the crates above go by

pub holds_new : (s : Sponge) → s ≡ fresh → Holds s []
unfolding absorbed
holds_new s e = e

holds_usable : (s : Sponge) (m : List ℕ) → Holds s m → usable s ≡ absorbed fresh m
holds_usable s m e = ap usable e ∙ usable_in (absorbed fresh m) (absorbed_in fresh m (omega arith))

pub holds_absorb : (s t : Sponge) (m part : List ℕ) → Holds s m → t ≡ absorbed (usable s) part → Holds t (m ++ part)
holds_absorb s t m part e et = et ∙ ap (λ (u : Sponge). absorbed u part) (holds_usable s m e) ∙ sym (absorbed_append fresh m part)

pub holds_finish : (s : Sponge) (m d : List ℕ) → Bytes m → Holds s m → d ≡ finished (usable s) → d ≡ keccak256 m
holds_finish s m d y e ed = ed ∙ ap finished (holds_usable s m e) ∙ hash_is m y

-- ---- the sponge is Keccak-256

all_held : (parts : List (List ℕ)) (s : Sponge) (m : List ℕ) → Holds s m → Holds (absorbed_all s parts) (m ++ joined_parts parts)
unfolding absorbed_all joined_parts
all_held [] s m e = e ∙ ap (absorbed fresh) (sym (append-nil m))
all_held (p ∷ ps) s m e =
    all_held ps (absorbed (usable s) p) (m ++ p) (holds_absorb s _ m p e refl) ∙ ap (absorbed fresh) (append_assoc m p (joined_parts ps))

-- new, absorb for each part, finish: the textbook's hash of the joined parts
pub sponge_is_keccak256 : (parts : List (List ℕ)) → Bytes (joined_parts parts) → finished (usable (absorbed_all fresh parts)) ≡ keccak256 (joined_parts parts)
sponge_is_keccak256 parts y = holds_finish (absorbed_all fresh parts) (joined_parts parts) _ y (all_held parts fresh [] (holds_new fresh refl)) refl

-- the settled examples of padding: 0 bytes one block, 135 one, 136 two
pub padding_sheet : (m : List ℕ) → (length m ≡ 0 → block_count m ≡ 1) × (length m ≡ 135 → block_count m ≡ 1) × (length m ≡ 136 → block_count m ≡ 2)
padding_sheet m = (λ e. omega (arith, block_count_lem m), λ e. omega (arith, block_count_lem m), λ e. omega (arith, block_count_lem m))

-- ---- a digest

bytes_tab : (a : List ℕ) (i n : ℕ) → Bytes (tab (byte_of a) i n)
bytes_tab a i zero = tt
bytes_tab a i (suc n) = (omega arith, bytes_tab a (suc i) n)

pub digest_length : (m : List ℕ) → length (keccak256 m) ≡ 32
unfolding digest_of
digest_length m = ap length (textbook m)

pub digest_bytes : (m : List ℕ) → Bytes (keccak256 m)
unfolding digest_of
digest_bytes m = subst Bytes (sym (textbook m)) (bytes_tab (blocks (block_count m) (replicate 25 0) (padded m)) 0 32)
