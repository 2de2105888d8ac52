-- The answers in numbers, the reply's first, in the order of docs/PROTOCOL.md and of include/bridlestep.h.
use Rattle.std.specs.Prelude.{ℕ, List, [], ◌∷◌, Option, Some, None}
use Rattle.answers.specs.declared.Verdict.{Verdict}
use Rattle.answers.specs.declared.View.{View}
use Rattle.answers.specs.Reply.{number_of}
use Rattle.prefixes.specs.declared.Figures.{Figures}
use Rattle.prefixes.specs.Prefix.{parsed_figures}
use Rattle.parts.specs.declared.Component.{Component}
use Rattle.parts.specs.declared.Component.TheVariants.{Prefix as WithPrefix, RootDir, CurDir, ParentDir, Normal}
use Rattle.paths.specs.declared.Prefixed.{Prefixed}
use Rattle.paths.specs.declared.steps.Stepped.{Stepped}
use Rattle.prefixes.specs.declared.Prefix.{Prefix}

-- the prefix's kind, letter and names, then what stands behind them
abbrev pub figure_numbers : Figures → List ℕ → List ℕ
figure_numbers f l = f.kind ∷ f.letter ∷ f.start1 ∷ f.len1 ∷ f.start2 ∷ f.len2 ∷ l

unfoldable pub prefix_numbers : Prefixed → List ℕ
prefix_numbers a = number_of a.reply ∷ figure_numbers (parsed_figures a.prefix) (a.len ∷ [])

-- "There are five kinds; Prefix carries which of the six kinds it is, with its letter or names."
abbrev pub component_number : Component → ℕ
component_number (WithPrefix p) = 1
component_number RootDir = 2
component_number CurDir = 3
component_number ParentDir = 4
component_number Normal = 5

abbrev pub held_prefix : Component → Option Prefix
held_prefix (WithPrefix p) = Some p
held_prefix RootDir = None
held_prefix CurDir = None
held_prefix ParentDir = None
held_prefix Normal = None

-- 0, and no prefix, where a step took nothing
abbrev pub taken_number : Option Component → ℕ
taken_number None = 0
taken_number (Some c) = component_number c

abbrev pub taken_prefix : Option Component → Option Prefix
taken_prefix None = None
taken_prefix (Some c) = held_prefix c

-- the component, its extent, and the cursor handed back
unfoldable pub step_numbers : Stepped → List ℕ
step_numbers a = number_of a.reply ∷ taken_number a.component ∷ figure_numbers (parsed_figures (taken_prefix a.component)) (a.start ∷ a.len ∷ a.cursor.mode ∷ a.cursor.front ∷ a.cursor.back ∷ [])

-- a part of the path, or what was written: its start and its length
unfoldable pub view_numbers : View → List ℕ
view_numbers a = number_of a.reply ∷ a.start ∷ a.len ∷ []

-- a test's 0 or 1; of an order 0 where P comes first, 1 where they are equal, 2 where Q comes first
unfoldable pub verdict_numbers : Verdict → List ℕ
verdict_numbers a = number_of a.reply ∷ a.value ∷ []
