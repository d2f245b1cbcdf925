-- The history goes on by the mark of the put.
use Rattle.std.proofs.Common.{rules}
use Rattle.cache_policy.proofs.BookLemmas.{book_of_put, endless_book_of_put}
use Rattle.cache_policy.proofs.list_book.ListBook.put.Goals as goal

pub returns-clause-puts_alone : goal.returns-clause-puts_alone
returns-clause-puts_alone c = λ history session h.
    book_of_put c.args.limits.now history c.args.self.now _ session c.args.moment c.args.id c.args.mode c.args.life c.args.secret (search rules) h

pub returns-clause-endless : goal.returns-clause-endless
returns-clause-endless c = λ history session e h.
    endless_book_of_put c.args.limits.now history c.args.self.now _ session c.args.moment c.args.id c.args.mode c.args.life c.args.secret (search rules) e h
