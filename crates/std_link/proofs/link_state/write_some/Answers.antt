use Rattle.std.{proofs.Common.{◌≡◌, ℕ, ◌+◌, ◌-◌, ◌≤◌, length, take, drop, ap, sym, ◌∙◌, arith, subst}, specs.Io.KnownBytes.Appends}
use Rattle.std_link.proofs.{KnownBytes.{appends_on, appends_then_keeps, first_more, length_first}, link_state.write_some.Goals.{in-Ok, in-Err}}
use Rattle.std_link.proofs.link_state.write_some.Goals as goal

pub loop-preserved : goal.loop-preserved
loop-preserved g c =
    elim c.match-write.branch [
      | in-Ok w ↦
          let sent_is : c.match-write.sent ≡ c.loop.sent + w.in-Ok.count = w.sent-is in
          let bound : w.in-Ok.count ≤ length (take (length c.args.bytes.now - c.loop.sent) (drop c.loop.sent c.args.bytes.now)) = w.in-Ok.ensures.bound in
          record {
            within = omega (arith, sent_is, bound, c.loop.invariant.within, length_first c.args.bytes.now c.loop.sent);
            written = appends_on _ _ _ _ _ _ c.loop.invariant.written w.in-Ok.ensures.bytes
                (first_more c.args.bytes.now c.loop.sent w.in-Ok.count ∙ ap (λ (n : ℕ). take n c.args.bytes.now) (sym sent_is));
          }
      | in-Err w ↦
          let sent_is : c.match-write.sent ≡ c.loop.sent = w.sent-is in
          record {
            within = omega (arith, sent_is, c.loop.invariant.within);
            written = appends_then_keeps _ _ _ _
                (subst (λ (n : ℕ). Appends (g.W.Write.contents c.args.writer.now) (g.W.Write.contents c.loop.writer) (take n c.args.bytes.now)) (sym sent_is) c.loop.invariant.written)
                w.in-Err.ensures.bytes;
          }
    ]
