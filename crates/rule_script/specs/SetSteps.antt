-- Helping only: where a set ends, by what is due and how many brackets are open.
use Rattle.std.specs.Prelude.{ℕ, ◌+◌, ◌-◌, ◌&&◌, ◌==◌, Bool, true, false, not, List, [], ◌∷◌, nat_lt, Option, Some, None, option_map, if◌then◌else◌}
use Rattle.cluster.specs.Prelude.{is_name}
use Rattle.rule_script.specs.Sets.{Set, max_open}
use Rattle.rule_script.specs.declared.sets.SetState.{SetState}
use Rattle.rule_script.specs.declared.tokens.Token.{Token}
use Rattle.rule_script.specs.declared.tokens.Token.TheVariants.{Word, Variable, Span, Sign, Opens, Closes, From, Upto, Colon, Comma, Bar, Equals, Other}

abbrev pub state : Bool → ℕ → SetState
state due count = record { is_due = due; brackets = count }

-- what a term that is due may begin with
abbrev pub term_step : ℕ → Token → Option SetState
term_step k (Word x) = if is_name x then Some (state false k) else None
term_step k (Span x a b) = Some (state false k)
term_step k (Variable x) = Some (state false k)
term_step k Opens = if nat_lt k max_open then Some (state true (k + 1)) else None
term_step k (Sign op) = None
term_step k Closes = None
term_step k From = None
term_step k Upto = None
term_step k Colon = None
term_step k Comma = None
term_step k Bar = None
term_step k Equals = None
term_step k Other = None

-- what may stand after a term
abbrev pub more_step : ℕ → Token → Option SetState
more_step k (Sign op) = Some (state true k)
more_step k Closes = if nat_lt 0 k then Some (state false (k - 1)) else None
more_step k (Word x) = None
more_step k (Span x a b) = None
more_step k (Variable x) = None
more_step k Opens = None
more_step k From = None
more_step k Upto = None
more_step k Colon = None
more_step k Comma = None
more_step k Bar = None
more_step k Equals = None
more_step k Other = None

-- what is due after a token that goes on with the set
unfoldable pub step : SetState → Token → Option SetState
step s t = if s.is_due then term_step s.brackets t else more_step s.brackets t

-- whether a set may end here
abbrev pub is_whole : SetState → Bool
is_whole s = not s.is_due && (s.brackets == 0)

abbrev pub rest_where : Bool → List Token → Option (List Token)
rest_where whole rest = if whole then Some rest else None

abbrev pub goes_or : (SetState → Option (List Token)) → Option (List Token) → Option SetState → Option (List Token)
goes_or f otherwise None = otherwise
goes_or f otherwise (Some next) = f next

-- the tokens after the set
unfoldable pub ends : SetState → List Token → Option (List Token)
ends s [] = rest_where (is_whole s) []
ends s (t ∷ ts) = goes_or (λ next. ends next ts) (rest_where (is_whole s) (t ∷ ts)) (step s t)

abbrev pub rest_of : Option (Set × List Token) → Option (List Token)
rest_of found = option_map (λ x. x.1) found
