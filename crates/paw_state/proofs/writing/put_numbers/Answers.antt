use Rattle.std.proofs.Common.{◌≡◌, ◌++◌, length, ap, ◌∙◌, arith}
use Rattle.std.specs.Int.{w64, to_le_bytes}
use Rattle.paw_base.specs.Bytes.{Bytes}
use Rattle.paw_state.proofs.Written.{three}
use Rattle.paw_state.proofs.writing.put_numbers.Goals as goal

pub returns : goal.returns
returns c = record {
  writes =
      let seed : length c.to_le_bytes.result ≡ 8 = ap length c.to_le_bytes.ensures in
      let draws : length c.to_le_bytes-2.result ≡ 8 = ap length c.to_le_bytes-2.ensures in
      let events : length c.to_le_bytes-3.result ≡ 8 = ap length c.to_le_bytes-3.ensures in
      record {
        puts = three c.args.writer.now c.put.new.self c.put-2.new.self c.put-3.new.self
            (to_le_bytes w64 c.args.world.now.seed) (to_le_bytes w64 c.args.world.now.draws) (to_le_bytes w64 c.args.events)
            (c.put.ensures.writes.puts ∙ ap (λ (l : Bytes). c.args.writer.now ++ l) (c.to_le_bytes.ensures ∙ ap (to_le_bytes w64) c.seed.ensures.value))
            (c.put-2.ensures.writes.puts ∙ ap (λ (l : Bytes). c.put.new.self ++ l) (c.to_le_bytes-2.ensures ∙ ap (to_le_bytes w64) c.draws.ensures.value))
            (c.put-3.ensures.writes.puts ∙ ap (λ (l : Bytes). c.put-2.new.self ++ l) c.to_le_bytes-3.ensures);
        long = omega (arith, c.put.ensures.writes.long, c.put-2.ensures.writes.long, c.put-3.ensures.writes.long);
      };
  fits = (
    rw (← c.seed.ensures.value) c.seed.type_inv,
    (rw (← c.draws.ensures.value) c.draws.type_inv, c.ranges.events.fits),
  );
}
