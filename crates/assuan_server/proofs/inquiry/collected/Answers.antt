use Rattle.std.proofs.Common.{◌≡◌, ◌≤◌, List, ℕ, rules, subst, length}
use Rattle.assuan_server.{specs.Inquiries.IsAtEnd, proofs.Inquiring.{failed, was_written, with_data, beyond, without_memory}}
use Rattle.assuan_server.proofs.inquiry.collected.Goals as goal

pub returns-in-Err-clause-answer : goal.returns-in-Err-clause-answer
returns-in-Err-clause-answer c = rw c.into.ensures.named (failed c.in-Err.ensures.failure IsAtEnd)

pub returns-in-Err-clause-others : goal.returns-in-Err-clause-others
returns-in-Err-clause-others c = λ is. was_written c.in-Err.ensures.failure (c.into.ensures.cut.0 is)

pub returns-in-None-clause-answer : goal.returns-in-None-clause-answer
returns-in-None-clause-answer c =
    let end = c.in_default.ensures.end in
    let short : length c.args.buffer.bytes.items ≤ c.args.buffer.limit = search rules in
    rw c.into_bytes.ensures.bytes
    (with_data end.0 end.1 end.2 c.args.buffer.bytes.items (λ other kept.
    let same : c.args.buffer.bytes.items ≡ other = rw c.in-None.is at kept in (same, subst (λ (b : List ℕ). length b ≤ c.args.buffer.limit) same short)))

pub returns-in-TooMuch-clause-answer : goal.returns-in-TooMuch-clause-answer
returns-in-TooMuch-clause-answer c =
    let end = c.in_default.ensures.end in
    beyond end.0 end.1 end.2 IsAtEnd (λ bytes kept. rw c.in-TooMuch.is at kept)

pub returns-in-NoMemory-clause-answer : goal.returns-in-NoMemory-clause-answer
returns-in-NoMemory-clause-answer c =
    let end = c.in_default.ensures.end in
    without_memory end.0 end.1 end.2
