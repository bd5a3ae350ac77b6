-- `keccak::Sponge::absorb` meets its contract: the three stretches, one after the other, are the part.
use mathlib.Core.Path.{◌≡◌, refl, ap, ◌∙◌, sym, subst}
use mathlib.Core.List.{List, ◌++◌, append_assoc}
use Prim.Native.Nat.{ℕ, ◌-◌, ◌%◌, ◌<◌}
use native.Mathlib.Omega.{arith}
use lib.ListN.{take-append-drop}
use lib.Seq.{take_all}
use Rattle.octets.specs.Bytes.{Bytes}
use Rattle.octets.proofs.Bytes.{bytes_known, bytes_take, bytes_drop}
use Rattle.keccak.specs.declared.sponge.Sponge.{Sponge}
use Rattle.keccak.specs.Sponge.{absorbed, joined_parts}
use Rattle.keccak.proofs.Step.{word_begins, chunked, chunks_bytes, three_parts, absorbed_in}
use Rattle.keccak.proofs.sponge.Sponge.absorb.Goals as goal

pub words-requires : goal.words-requires
words-requires c =
    let p : List ℕ = c.args.part.now in
    let k : ℕ = (8 - c.usable-s.result.place % 8) % 8 in
    let rest : List ℕ = c.split_at.result.1.now in
    let known : Bytes rest = subst Bytes (sym c.split_at.ensures.back) (bytes_drop k p (bytes_known p (λ i. (c.type_inv.part i).fits))) in
    let b =
    word_begins c.usable-s.result c.bytes-2.result p k c.usable-s.ensures.1 refl (omega arith)
    (c.bytes-2.ensures ∙ ap (absorbed c.usable-s.result) c.split_at.ensures.front) in
    (b.0, b.1, chunks_bytes _ _ c.as_chunks.ensures.front (grind (arith, known, bytes_take)))

pub bytes-requires-3 : goal.bytes-requires-3
bytes-requires-3 c =
    subst (λ (t : Sponge). t.place < 136) (sym c.words.ensures)
    (absorbed_in c.bytes-2.result _
    (subst (λ (t : Sponge). t.place < 136) (sym c.bytes-2.ensures) (absorbed_in c.usable-s.result _ c.usable-s.ensures.1.in_block)))

pub returns : goal.returns
returns c =
    let p : List ℕ = c.args.part.now in
    let k : ℕ = (8 - c.usable-s.result.place % 8) % 8 in
    let rest : List ℕ = c.split_at.result.1.now in
    let behind : joined_parts c.as_chunks.result.0.now ++ c.as_chunks.result.1.now ≡ rest =
    chunked _ rest _ _ c.as_chunks.ensures.front c.as_chunks.ensures.back (grind (arith, take_all)) in
    let all : (c.split_at.result.0.now ++ joined_parts c.as_chunks.result.0.now) ++ c.as_chunks.result.1.now ≡ p =
    append_assoc c.split_at.result.0.now (joined_parts c.as_chunks.result.0.now) c.as_chunks.result.1.now
    ∙ (λ i. c.split_at.ensures.front i ++ (behind ∙ c.split_at.ensures.back) i)
    ∙ take-append-drop k p in
    three_parts c.usable-s.result _ _ _ p _ _ _ c.bytes-2.ensures c.words.ensures c.bytes-3.ensures all
    ∙ ap (λ (t : Sponge). absorbed t p) c.usable-s.ensures.0
