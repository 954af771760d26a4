use Rattle.std.proofs.Common.{◌*◌, refl, sym, subst, arith, rules}
use Rattle.std.specs.Fork.{IsChunk}
use Rattle.mcf_base.proofs.Chunks.{is_chunk, by_number, in_chunk}
use Rattle.mcf_base.proofs.chain.for_each_chunk_mut.Goals as goal

pub chain-requires-after_bounds : goal.chain-requires-after_bounds
chain-requires-after_bounds g c κs within =
    let xs = c.args.items.now in let size = c.args.size in
    record {
      some = search rules;
      some_size = c.requires.size;
      room = search rules;
      each = λ n u p e. subst (λ i. g.F.Fn.pre c.args.work.now (i, (p, tt))) {x = n * size} (omega arith)
          (c.requires.accepts (n * size) p (subst (IsChunk xs size (n * size)) (sym e) (is_chunk xs size n c.requires.size u)));
    }

pub returns-then-not-is_empty : goal.returns-then-not-is_empty
returns-then-not-is_empty g c =
    let chunks = by_number g.F.Fn c.args.work.now c.args.size c.args.items.now c.chain.new.items c.chain.ensures in
    record { chunks = chunks; by_index = λ i d l. (refl, in_chunk g.F.Fn c.args.work.now c.args.size c.args.items.now c.chain.new.items c.requires.size chunks i d l) }
