-- Helping only: the value of a set by one pass over its tokens, from the left.
use Rattle.std.specs.Prelude.{List, [], ◌∷◌, Ok}
use Rattle.cluster.specs.Prelude.{Inventory}
use Rattle.rule_script.specs.Bindings.{Bindings}
use Rattle.rule_script.specs.Sets.{named, span, bound}
use Rattle.rule_script.specs.Values.{joined_value, value_of, Worth}
use Rattle.rule_script.specs.declared.tokens.Token.{Token}
use Rattle.rule_script.specs.declared.tokens.Token.TheVariants.{Word, Variable, Span, Sign, Opens, Closes, From, Upto, Colon, Comma, Bar, Equals, Other}
use Rattle.rule_script.specs.declared.pass.Due.{Due}
use Rattle.rule_script.specs.declared.pass.Due.TheVariants.{Term, More}
use Rattle.rule_script.specs.declared.pass.Next.{Next}
use Rattle.rule_script.specs.declared.pass.Next.TheVariants.{On, Done}
use Rattle.rule_script.specs.declared.pass.Waiting.{Waiting}
use Rattle.rule_script.specs.declared.pass.Waiting.TheVariants.{Nothing, Left}

abbrev pub with_term : Waiting → Worth → Worth
with_term Nothing t = t
with_term (Left v op) t = joined_value op v t

-- after a token where a term is due; what waits at each open bracket stands in a list, the innermost first
abbrev pub term_next : Inventory → Bindings → Waiting → List Waiting → Token → Next × List Waiting
term_next k env c brackets (Word x) = (On (More (with_term c (value_of k env (named x)))), brackets)
term_next k env c brackets (Span x a b) = (On (More (with_term c (value_of k env (span x a b)))), brackets)
term_next k env c brackets (Variable x) = (On (More (with_term c (value_of k env (bound x)))), brackets)
term_next k env c brackets Opens = (On (Term Nothing), c ∷ brackets)
term_next k env c brackets (Sign op) = (Done (Ok []), brackets)
term_next k env c brackets Closes = (Done (Ok []), brackets)
term_next k env c brackets From = (Done (Ok []), brackets)
term_next k env c brackets Upto = (Done (Ok []), brackets)
term_next k env c brackets Colon = (Done (Ok []), brackets)
term_next k env c brackets Comma = (Done (Ok []), brackets)
term_next k env c brackets Bar = (Done (Ok []), brackets)
term_next k env c brackets Equals = (Done (Ok []), brackets)
term_next k env c brackets Other = (Done (Ok []), brackets)

abbrev pub closed : Worth → List Waiting → Next × List Waiting
closed v [] = (Done v, [])
closed v (c ∷ brackets) = (On (More (with_term c v)), brackets)

-- after a token that stands after a term
abbrev pub more_next : Worth → List Waiting → Token → Next × List Waiting
more_next v brackets (Sign op) = (On (Term (Left v op)), brackets)
more_next v brackets Closes = closed v brackets
more_next v brackets (Word x) = (Done v, brackets)
more_next v brackets (Span x a b) = (Done v, brackets)
more_next v brackets (Variable x) = (Done v, brackets)
more_next v brackets Opens = (Done v, brackets)
more_next v brackets From = (Done v, brackets)
more_next v brackets Upto = (Done v, brackets)
more_next v brackets Colon = (Done v, brackets)
more_next v brackets Comma = (Done v, brackets)
more_next v brackets Bar = (Done v, brackets)
more_next v brackets Equals = (Done v, brackets)
more_next v brackets Other = (Done v, brackets)

unfoldable pub advance : Inventory → Bindings → Due → List Waiting → Token → Next × List Waiting
advance k env (Term c) brackets t = term_next k env c brackets t
advance k env (More v) brackets t = more_next v brackets t

-- what a set is worth that ends here
abbrev pub whole : Due → Worth
whole (Term c) = Ok []
whole (More v) = v

abbrev pub goes : (Due → List Waiting → Worth) → Next × List Waiting → Worth
goes f (On due, brackets) = f due brackets
goes f (Done v, brackets) = v

unfoldable pub run : Inventory → Bindings → Due → List Waiting → List Token → Worth
run k env due brackets [] = whole due
run k env due brackets (t ∷ ts) = goes (λ d o. run k env d o ts) (advance k env due brackets t)
