-- What the arguments give is what a parse of them finds.
use Rattle.std.proofs.Common.{◌≡◌, ◌∙◌, ℕ, List, [], Option, Some, None, true, false, option_map, codes, refl, ap, ap₂}
use Rattle.std.proofs.Common.{◌⊎◌, sym, subst, inl, inr, Result, IsErrAnd, IsErrOf, arith, slice_index}
use Rattle.std.specs.Box.{box_value}
use Rattle.ov_ids.specs.Options.{◌>>=◌}
use Rattle.clap.proofs.OnLiterals.{clap_on_literals}
use Rattle.clap.proofs.WalkLemmas.{first_value-rows}
use Rattle.clap.specs.Words.{App, HasKind, HasMatchesOf, IsAmong, Row, Text}
use Rattle.clap.specs.Words.{fault_of, first_of, first_value, is_simple, is_simple_and_free, kind_of, rows_of}
use Rattle.clap.specs.Words.{subcommand_name_of, subcommand_of, subcommand_rows, subcommand_rows_of}
use Rattle.clap.specs.declared.error.Error.{Error}
use Rattle.clap.specs.declared.error.kind.ErrorKind.{ErrorKind}
use Rattle.clap.specs.declared.error.kind.ErrorKind.TheVariants.{OutOfMemory as no_memory}
use Rattle.clap.specs.declared.parser.matches.ArgMatches.{ArgMatches}
use Rattle.clap.specs.declared.parser.matches.ArgMatches.TheViews.{out-ArgMatches, out-SubCommand}
use Rattle.clap.specs.declared.parser.matches.Found.{Found}
use Rattle.ov_arguments.specs.Arguments.{AreReadableFor, IsAsked, IsAskedByCommand, command_given}
use Rattle.ov_arguments.specs.Arguments.{entry_asked, entry_of}
use Rattle.ov_arguments.specs.Arguments.{fault_of_parse, file_asked, format_of}
use Rattle.ov_command_tree.specs.Commands.{overlay_command}
use Rattle.ov_command_tree.specs.Flags.{is_flagged}
use Rattle.ov_arguments.specs.Arguments.{group_asked, group_list_asked, least_asked}
use Rattle.ov_arguments.specs.Arguments.{text_given, workers_asked}
use Rattle.ov_arguments.specs.declared.arguments.ArgumentsFault.TheVariants.{OutOfMemory}
use Rattle.ov_arguments.specs.declared.arguments.Request.{Request}
use Rattle.ov_arguments.specs.declared.arguments.Request.TheVariants.{Run, Analyse, Import, Picture, Graph, Tell}

-- `clap` says what this command finds
is_told : is_simple overlay_command ≡ true
unfolding clap_on_literals
is_told = refl

-- it says which faults this command finds
fault_is_told : is_simple_and_free overlay_command ≡ true
unfolding clap_on_literals
fault_is_told = refl

-- a parse that finds something finds no fault
pub no_fault_found : (command : App) (arguments : List (List ℕ)) → command ≡ overlay_command
    → (is_simple_and_free command ≡ true → fault_of command arguments ≡ [])
    → fault_of overlay_command arguments ≡ []
no_fault_found command arguments is none =
    ap (λ a. fault_of a arguments) (sym is) ∙ none (ap is_simple_and_free is ∙ fault_is_told)

-- an error that is of no kind but out of memory
memory_alone : (kind : ErrorKind) → (kind ≡ no_memory) ⊎ IsAmong kind [] → fault_of_parse kind ≡ OutOfMemory
memory_alone kind (inl memory) = ap fault_of_parse memory
memory_alone kind (inr among) = absurd among

-- a parse in which `clap` finds no fault fails out of memory alone
pub fails_for_memory : (command : App) (arguments : List (List ℕ)) (error : Error) → command ≡ overlay_command
    → fault_of overlay_command arguments ≡ []
    → (is_simple_and_free command ≡ true → HasKind (fault_of command arguments) error)
    → fault_of_parse (kind_of error) ≡ OutOfMemory
fails_for_memory command arguments error is none kinds =
    memory_alone (kind_of error) (subst (λ k. HasKind k error) (ap (λ a. fault_of a arguments) is ∙ none)
    (kinds (ap is_simple_and_free is ∙ fault_is_told)))

found_text : (found : Option (Text × List Row)) (f : Found) (name : List ℕ)
    → Some (rows_of f) ≡ option_map (λ p. p.1) found
    → (found >>= λ p. first_of name p.1) ≡ first_value f name
found_text None f name same = absurd (cc)
found_text (Some p) f name same =
    let rows : p.1 ≡ rows_of f = cc in
    ap (first_of name) rows ∙ sym (first_value-rows f name)

-- the text that the arguments give is the one that the matches of the subcommand have
given_found : (command : App) (arguments : List (List ℕ)) (m : ArgMatches) (f : Found) (name : List ℕ)
    → command ≡ overlay_command → HasMatchesOf command arguments m
    → Some (rows_of f) ≡ option_map (λ p. p.1) (subcommand_rows_of m)
    → text_given arguments name ≡ first_value f name
given_found command arguments m f name is has rows =
    let same : subcommand_rows_of m ≡ subcommand_of overlay_command arguments =
    (has (ap is_simple is ∙ is_told)).1 ∙ ap (λ c. subcommand_of c arguments) is in
    found_text (subcommand_of overlay_command arguments) f name (rows ∙ ap (option_map (λ p. p.1)) same)

-- the name of the command that the arguments give is the one that the matches have
names : (m : ArgMatches) → option_map (λ p. p.0) (subcommand_rows_of m) ≡ subcommand_name_of m
names m = elim (out-ArgMatches m).subcommand as (λ x. option_map (λ p. p.0) (subcommand_rows x)
    ≡ option_map (λ b. (out-SubCommand (box_value b)).name.now) x) [ None ↦ refl | Some b ↦ refl ]

command_found : (command : App) (arguments : List (List ℕ)) (m : ArgMatches) (name : List ℕ)
    → command ≡ overlay_command → HasMatchesOf command arguments m → Some name ≡ subcommand_name_of m
    → command_given arguments ≡ Some name
command_found command arguments m name is has named =
    let same : subcommand_rows_of m ≡ subcommand_of overlay_command arguments =
    (has (ap is_simple is ∙ is_told)).1 ∙ ap (λ c. subcommand_of c arguments) is in
    ap (option_map (λ p. p.0)) (sym same) ∙ names m ∙ sym named

-- an option is not both None and Some
none_some : {A P : Type 0} (o : Option A) (a : A) → o ≡ None → o ≡ Some a → P
none_some o a none some =
    let bad : None ≡ Some a = sym none ∙ some in
    absurd cc

mapped_none : {A B : Type 0} (f : A → B) (o : Option A) → option_map f o ≡ None → o ≡ None
mapped_none f None is = refl
mapped_none f (Some a) is = none_some (Some (f a)) (f a) is refl

-- if the matches have no subcommand, the arguments give none
pub none_found : (command : App) (arguments : List (List ℕ)) (m : ArgMatches) → command ≡ overlay_command
    → HasMatchesOf command arguments m → None ≡ subcommand_name_of m
    → subcommand_of overlay_command arguments ≡ None
none_found command arguments m is has none =
    let same : subcommand_rows_of m ≡ subcommand_of overlay_command arguments =
    (has (ap is_simple is ∙ is_told)).1 ∙ ap (λ c. subcommand_of c arguments) is in
    sym same ∙ mapped_none (λ p. p.0) (subcommand_rows_of m) (names m ∙ sym none)

-- arguments that give no subcommand ask for a run of standard input, without an option
pub run_given : (arguments : List (List ℕ)) → subcommand_of overlay_command arguments ≡ None
    → IsAskedByCommand arguments (Run None (record { explain = false; strict = false; progress = false }))
run_given arguments none =
    let command : command_given arguments ≡ None = ap (option_map (λ found. found.0)) none in
    let text : (n : List ℕ) → text_given arguments n ≡ None = λ n. ap (λ f. f >>= λ found. first_of n found.1) none in (
      (
        (λ x. none_some _ _ command x),
        (λ x. none_some _ _ command x),
        (λ x. none_some _ _ command x),
        (λ x. none_some _ _ command x),
      ),
      ap file_asked (text (codes "file")),
      ap is_flagged (text (codes "explain")),
      ap is_flagged (text (codes "strict")),
      ap is_flagged (text (codes "progress")),
    )

-- and need no reading
pub none_readable : (arguments : List (List ℕ)) → subcommand_of overlay_command arguments ≡ None
    → AreReadableFor (command_given arguments) (text_given arguments)
none_readable arguments none =
    let command : command_given arguments ≡ None = ap (option_map (λ found. found.0)) none in
    record {
      analysis = λ is. none_some _ _ command is;
      dump = λ is. none_some _ _ command is;
      picture = λ is. none_some _ _ command is;
    }

-- the fault of a failure is of the kind that all its faults are
pub err_of : {T E : Type 0} (Is : E → Type 0) (r : Result T E) (f : E) → IsErrAnd r Is → IsErrOf r f → Is f
err_of Is r f all is = subst (λ q. IsErrAnd q Is) is all

-- equal texts ask for the same form of a dump
format_same : (t u : List ℕ → Option (List ℕ)) → ((n : List ℕ) → t n ≡ u n) → format_of t ≡ format_of u
format_same t u f =
    let views = ap is_flagged (f (codes "views")) in
    let edges = ap is_flagged (f (codes "edges")) in
    let dot = ap is_flagged (f (codes "dot")) in
    rw (views, edges, dot) refl

-- and for the same entry
entry_same : (t u : List ℕ → Option (List ℕ)) → ((n : List ℕ) → t n ≡ u n) → entry_of t ≡ entry_of u
entry_same t u f = ap₂ entry_asked (f (codes "pair")) (f (codes "fan"))

-- what equal names and texts ask for is the same
asked_same : (c d : Option (List ℕ)) (t u : List ℕ → Option (List ℕ)) → c ≡ d → ((n : List ℕ) → t n ≡ u n)
    → (r : Request) → IsAsked d u r → IsAsked c t r
asked_same c d t u e f (Run file run) a = (
  ((λ x. a.0.0 (sym e ∙ x)), (λ x. a.0.1 (sym e ∙ x)), (λ x. a.0.2 (sym e ∙ x)), (λ x. a.0.3 (sym e ∙ x))),
  ap file_asked (f (codes "file")) ∙ a.1,
  ap is_flagged (f (codes "explain")) ∙ a.2,
  ap is_flagged (f (codes "strict")) ∙ a.3,
  ap is_flagged (f (codes "progress")) ∙ a.4,
)
asked_same c d t u e f (Analyse file analysis) a = (
  e ∙ a.0,
  ap file_asked (f (codes "file")) ∙ a.1,
  ap₂ group_asked (ap is_flagged (f (codes "names"))) (f (codes "group")) ∙ a.2,
  ap₂ group_list_asked (ap is_flagged (f (codes "names"))) (f (codes "group")) ∙ a.3,
  f (codes "without") ∙ a.4,
  ap₂ least_asked (ap is_flagged (f (codes "large"))) (f (codes "at-least")) ∙ a.5,
  ap workers_asked (f (codes "workers")) ∙ a.6,
  ap is_flagged (f (codes "certificate")) ∙ a.7,
  ap is_flagged (f (codes "names")) ∙ a.8,
  ap is_flagged (f (codes "explain")) ∙ a.9,
  ap is_flagged (f (codes "progress")) ∙ a.10,
  ap is_flagged (f (codes "large")) ∙ a.11,
)
asked_same c d t u e f (Import file dump) a = (
  e ∙ a.0,
  ap file_asked (f (codes "file")) ∙ a.1,
  format_same t u f ∙ a.2,
  ap is_flagged (f (codes "either")) ∙ a.3,
  ap is_flagged (f (codes "entries")) ∙ a.4,
  ap is_flagged (f (codes "large")) ∙ a.5,
)
asked_same c d t u e f (Picture file picture) a = (
  e ∙ a.0,
  ap file_asked (f (codes "file")) ∙ a.1,
  f (codes "names") ∙ a.2,
  entry_same t u f ∙ a.3,
  ap is_flagged (f (codes "dot")) ∙ a.4,
)
asked_same c d t u e f (Graph file large) a = (
  e ∙ a.0,
  ap file_asked (f (codes "file")) ∙ a.1,
  ap is_flagged (f (codes "large")) ∙ a.2,
)
asked_same c d t u e f (Tell telling) a = absurd a

-- texts that are equal to readable ones are readable
readable_same : (c d : Option (List ℕ)) (t u : List ℕ → Option (List ℕ)) → c ≡ d → ((n : List ℕ) → t n ≡ u n)
    → AreReadableFor c t → AreReadableFor d u
readable_same c d t u e f r = record {
  analysis = λ is. record {
    group = λ x. (r.analysis (e ∙ is)).group
        (ap₂ group_asked (ap is_flagged (f (codes "names"))) (f (codes "group")) ∙ x);
    least = λ x. (r.analysis (e ∙ is)).least
        (ap₂ least_asked (ap is_flagged (f (codes "large"))) (f (codes "at-least")) ∙ x);
    workers = λ x. (r.analysis (e ∙ is)).workers (ap workers_asked (f (codes "workers")) ∙ x);
  };
  dump = λ is none. r.dump (e ∙ is) (format_same t u f ∙ none);
  picture = λ is none. r.picture (e ∙ is) (entry_same t u f ∙ none);
}

-- two names of commands that differ in their first letter are not both given
other_name : (command : Option (List ℕ)) (a b : List ℕ) {P : Type 0} → command ≡ Some a → command ≡ Some b
    → (slice_index a 0 ≡ slice_index b 0 → P) → P
other_name command a b is other differ =
    let same : a ≡ b = cc in
    differ (ap (λ n. slice_index n 0) same)

-- the texts that ask for something can be read
pub asked_readable : (command : Option (List ℕ)) (text : List ℕ → Option (List ℕ)) (r : Request)
    → IsAsked command text r → AreReadableFor command text
asked_readable command text (Run file run) a = record {
  analysis = λ is. absurd (a.0.0 is);
  dump = λ is. absurd (a.0.1 is);
  picture = λ is. absurd (a.0.2 is);
}
asked_readable command text (Analyse file analysis) a = record {
  analysis = λ is. record { group = λ none. cc; least = λ none. cc; workers = λ none. cc };
  dump = λ is. other_name command (codes "analyse") (codes "import") a.0 is
      (λ e. let bad : 97 ≡ 105 = e in absurd (omega arith));
  picture = λ is. other_name command (codes "analyse") (codes "picture") a.0 is
      (λ e. let bad : 97 ≡ 112 = e in absurd (omega arith));
}
asked_readable command text (Import file dump) a = record {
  analysis = λ is. other_name command (codes "import") (codes "analyse") a.0 is
      (λ e. let bad : 105 ≡ 97 = e in absurd (omega arith));
  dump = λ is none. cc;
  picture = λ is. other_name command (codes "import") (codes "picture") a.0 is
      (λ e. let bad : 105 ≡ 112 = e in absurd (omega arith));
}
asked_readable command text (Picture file picture) a = record {
  analysis = λ is. other_name command (codes "picture") (codes "analyse") a.0 is
      (λ e. let bad : 112 ≡ 97 = e in absurd (omega arith));
  dump = λ is. other_name command (codes "picture") (codes "import") a.0 is
      (λ e. let bad : 112 ≡ 105 = e in absurd (omega arith));
  picture = λ is none. cc;
}
asked_readable command text (Graph file large) a = record {
  analysis = λ is. other_name command (codes "graph") (codes "analyse") a.0 is
      (λ e. let bad : 103 ≡ 97 = e in absurd (omega arith));
  dump = λ is. other_name command (codes "graph") (codes "import") a.0 is
      (λ e. let bad : 103 ≡ 105 = e in absurd (omega arith));
  picture = λ is. other_name command (codes "graph") (codes "picture") a.0 is
      (λ e. let bad : 103 ≡ 112 = e in absurd (omega arith));
}
asked_readable command text (Tell telling) a = absurd a

-- what the matches of the subcommand ask for is what the arguments give
module _ (command : App) (arguments : List (List ℕ)) (m : ArgMatches) (f : Found) (name : List ℕ)
    (is : command ≡ overlay_command) (has : HasMatchesOf command arguments m) (named : Some name ≡ subcommand_name_of m)
    (rows : Some (rows_of f) ≡ option_map (λ p. p.1) (subcommand_rows_of m)) where
  pub asked_given : (r : Request) → IsAsked (Some name) (first_value f) r → IsAskedByCommand arguments r
  asked_given = asked_same (command_given arguments) (Some name) (text_given arguments) (first_value f)
      (command_found command arguments m name is has named) (λ n. given_found command arguments m f n is has rows)

  pub readable_given : AreReadableFor (command_given arguments) (text_given arguments)
      → AreReadableFor (Some name) (first_value f)
  readable_given = readable_same (command_given arguments) (Some name) (text_given arguments) (first_value f)
      (command_found command arguments m name is has named) (λ n. given_found command arguments m f n is has rows)
