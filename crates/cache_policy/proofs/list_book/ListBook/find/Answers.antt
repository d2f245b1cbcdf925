-- What is found is what is live, over the histories that the book was given.
use Rattle.std.{proofs.Common.{◌≡◌, ap, ◌∙◌, sym, rules}, specs.Option.option_map}
use Rattle.cache_policy.{specs.{declared.{grant.Grant.Grant, entry.Entry.Entry}, Book.found}, proofs.{Lists.option_map_map, BookLemmas.{found_puts_alone, found_endless, endless_book_of_ask}}}
use Rattle.cache_policy.proofs.list_book.ListBook.find.Goals as goal

pub returns-clause-puts_alone : goal.returns-clause-puts_alone
returns-clause-puts_alone c = λ limits history h.
    let e : option_map (λ (grant : Grant). grant.entry) c.grant_of.result
    ≡ found c.args.self.now.entries c.args.id.now c.args.mode c.args.moment = search rules in
    e ∙ found_puts_alone limits history c.args.self.now c.args.id.now c.args.mode c.args.moment h

pub returns-clause-endless : goal.returns-clause-endless
returns-clause-endless c = λ limits history h.
    let e : option_map (λ (grant : Grant). grant.entry) c.grant_of.result
    ≡ found c.args.self.now.entries c.args.id.now c.args.mode c.args.moment = search rules in
    sym (option_map_map (λ (grant : Grant). grant.entry) (λ (entry : Entry). entry.secret) c.grant_of.result)
    ∙ (ap (option_map (λ (entry : Entry). entry.secret)) e
    ∙ found_endless limits history c.args.self.now c.args.id.now c.args.mode c.args.moment h)

pub returns-clause-asked : goal.returns-clause-asked
returns-clause-asked c = λ limits history session way since reply h.
    endless_book_of_ask limits history c.args.self.now session c.args.moment c.args.id.now c.args.mode way since reply h
