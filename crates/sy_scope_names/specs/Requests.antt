-- Commands by their names, and the number and kinds of their parts.
use Rattle.std.specs.Prelude.{ℕ, List, Bool, true, false, Option, Some, None, bytes_eq, codes, if◌then◌else◌}
use Rattle.std.specs.Option.{option_map}
use Rattle.sy_text_items.specs.Items.{Item, leaf, group, Items, none, more}
use Rattle.sy_text_items.specs.declared.atom.Atom.{Atom}
use Rattle.sy_text_items.specs.declared.atom.Atom.TheVariants as atoms
use Rattle.sy_text_items.specs.declared.atom.Place.{Place}
use Rattle.sy_forms_items.specs.Parts.{symbol, place_of, has_no_items}
use Rattle.sy_scope_names.specs.declared.commands.Command.{Command}
use Rattle.sy_scope_names.specs.declared.commands.Command.TheVariants.{SetLogic, SetFeature, SetInfo, SetOption, DeclareVar, DefineSort, DefineFun, SynthFun, SynthInv, Constraint, Assume, InvConstraint, CheckSynth}

-- the command of the profile that has this name
abbrev pub command_named : List ℕ → Option Command
command_named name =
    if bytes_eq name (codes "set-logic") then Some SetLogic
    else if bytes_eq name (codes "set-feature") then Some SetFeature
    else if bytes_eq name (codes "set-info") then Some SetInfo
    else if bytes_eq name (codes "set-option") then Some SetOption
    else if bytes_eq name (codes "declare-var") then Some DeclareVar
    else if bytes_eq name (codes "define-sort") then Some DefineSort
    else if bytes_eq name (codes "define-fun") then Some DefineFun
    else if bytes_eq name (codes "synth-fun") then Some SynthFun
    else if bytes_eq name (codes "synth-inv") then Some SynthInv
    else if bytes_eq name (codes "constraint") then Some Constraint
    else if bytes_eq name (codes "assume") then Some Assume
    else if bytes_eq name (codes "inv-constraint") then Some InvConstraint
    else if bytes_eq name (codes "check-synth") then Some CheckSynth
    else None

-- a symbol of the file, and where it stands
pub record Spelled : Type 0 where
  pub name : List ℕ
  pub place : Place

-- a list of the file, and where its bracket stands
pub record Listed : Type 0 where
  pub items : Items
  pub place : Place

-- a predeclaration and groups of rules
pub record Rulebook : Type 0 where
  pub predeclared : Listed
  pub groups : Listed

-- a command with parts of the right number and kinds
pub data Request : Type 0 where
  ToSetLogic : (logic : Spelled) → Request
  ToSetFeature : (feature : Spelled) → (on : Bool) → Request
  ToNote : Request
  ToDeclareVariable : (name : Spelled) → (sort : Item) → Request
  ToDefineSort : (name : Spelled) → (sort : Item) → Request
  ToDefine : (name : Spelled) → (arguments : Items) → (sort : Item) → (body : Item) → Request
  ToSynthesise : (name : Spelled) → (arguments : Items) → (sort : Item) → (rules : Option Rulebook) → Request
  ToSynthesiseInvariant : (name : Spelled) → (arguments : Items) → (rules : Option Rulebook) → Request
  ToConstrain : (term : Item) → Request
  ToAssume : (term : Item) → Request
  ToConstrainInvariant : (invariant before step after : Spelled) → Request
  ToCheck : Request

abbrev pub spelled_by : Place → Option (List ℕ) → Option Spelled
spelled_by place None = None
spelled_by place (Some name) = Some (record { name = name; place = place })

abbrev pub symbol_spelled : Item → Option Spelled
symbol_spelled item = spelled_by (place_of item) (symbol item)

abbrev pub keyword_in : Place → Atom → Option Spelled
keyword_in place (atoms.Keyword name) = Some (record { name = name; place = place })
keyword_in place _ = None

abbrev pub keyword : Item → Option Spelled
keyword (leaf atom place) = keyword_in place atom
keyword (group items place) = None

abbrev pub list_in : Item → Option Listed
list_in (leaf atom place) = None
list_in (group items place) = Some (record { items = items; place = place })

-- `true` or `false`
abbrev pub switch_named : Option (List ℕ) → Option Bool
switch_named None = None
switch_named (Some name) = if bytes_eq name (codes "true") then Some true else if bytes_eq name (codes "false") then Some false else None

abbrev pub switch : Item → Option Bool
switch item = switch_named (symbol item)

abbrev pub is_no_parameters : Option Listed → Bool
is_no_parameters None = false
is_no_parameters (Some list) = has_no_items list.items

abbrev pub rulebook_of : Option Listed → Option Listed → Option Rulebook
rulebook_of None groups = None
rulebook_of (Some predeclared) None = None
rulebook_of (Some predeclared) (Some groups) = Some (record { predeclared = predeclared; groups = groups })

abbrev pub rulebook : Item → Item → Option Rulebook
rulebook predeclared groups = rulebook_of (list_in predeclared) (list_in groups)

-- the only item of a list, or all of a list of two or more
abbrev pub only_item : Items → Option Item
only_item (more first none) = Some first
only_item _ = None

abbrev pub two_items : Items → Option (Item × Item)
two_items none = None
two_items (more first rest) = option_map (λ x. (first, x)) (only_item rest)

abbrev pub three_items : Items → Option (Item × Item × Item)
three_items none = None
three_items (more first rest) = option_map (λ x. (first, x.0, x.1)) (two_items rest)

abbrev pub four : Items → Option (Item × Item × Item × Item)
four none = None
four (more first rest) = option_map (λ x. (first, x.0, x.1, x.2)) (three_items rest)

abbrev pub five : Items → Option (Item × Item × Item × Item × Item)
five none = None
five (more first rest) = option_map (λ x. (first, x.0, x.1, x.2, x.3)) (four rest)

-- `set-logic`
abbrev pub logic_setting : Option Spelled → Option Request
logic_setting None = None
logic_setting (Some logic) = Some (ToSetLogic logic)

abbrev pub set_logic_request : Items → Option Request
set_logic_request (more logic none) = logic_setting (symbol_spelled logic)
set_logic_request _ = None

-- `set-feature`
abbrev pub feature_setting : Option Spelled → Option Bool → Option Request
feature_setting None on = None
feature_setting (Some feature) None = None
feature_setting (Some feature) (Some on) = Some (ToSetFeature feature on)

abbrev pub feature_by : Option (Item × Item) → Option Request
feature_by None = None
feature_by (Some (feature, on)) = feature_setting (keyword feature) (switch on)

abbrev pub set_feature_request : Items → Option Request
set_feature_request parts = feature_by (two_items parts)

-- `set-info` and `set-option`: a keyword, and at most one item behind it, whatever it is
abbrev pub info_request : Option Spelled → Option Request
info_request None = None
info_request (Some name) = Some ToNote

abbrev pub note : Items → Option Request
note (more name none) = info_request (keyword name)
note (more name (more value none)) = info_request (keyword name)
note _ = None

-- `declare-var`
abbrev pub variable : Option Spelled → Item → Option Request
variable None sort = None
variable (Some name) sort = Some (ToDeclareVariable name sort)

abbrev pub variable_by : Option (Item × Item) → Option Request
variable_by None = None
variable_by (Some (name, sort)) = variable (symbol_spelled name) sort

abbrev pub declare_var : Items → Option Request
declare_var parts = variable_by (two_items parts)

-- `define-sort`: both spellings, with an empty list of parameters, and without
abbrev pub abbreviation : Option Spelled → Item → Option Request
abbreviation None sort = None
abbreviation (Some name) sort = Some (ToDefineSort name sort)

abbrev pub abbreviation_by : Option (Item × Item) → Option (Item × Item × Item) → Option Request
abbreviation_by (Some (name, sort)) longer = abbreviation (symbol_spelled name) sort
abbreviation_by None None = None
abbreviation_by None (Some (name, parameters, sort)) = if is_no_parameters (list_in parameters) then abbreviation (symbol_spelled name) sort else None

abbrev pub define_sort_request : Items → Option Request
define_sort_request parts = abbreviation_by (two_items parts) (three_items parts)

-- `define-fun`
abbrev pub definition : Option Spelled → Option Listed → Item → Item → Option Request
definition None arguments sort body = None
definition (Some name) None sort body = None
definition (Some name) (Some arguments) sort body = Some (ToDefine name arguments.items sort body)

abbrev pub definition_by : Option (Item × Item × Item × Item) → Option Request
definition_by None = None
definition_by (Some (name, arguments, sort, body)) = definition (symbol_spelled name) (list_in arguments) sort body

abbrev pub define_fun : Items → Option Request
define_fun parts = definition_by (four parts)

-- `synth-fun`
abbrev pub synthesis : Option Spelled → Option Listed → Item → Option Request
synthesis None arguments sort = None
synthesis (Some name) None sort = None
synthesis (Some name) (Some arguments) sort = Some (ToSynthesise name arguments.items sort None)

abbrev pub ruled_synthesis : Option Spelled → Option Listed → Item → Option Rulebook → Option Request
ruled_synthesis None arguments sort rules = None
ruled_synthesis (Some name) None sort rules = None
ruled_synthesis (Some name) (Some arguments) sort None = None
ruled_synthesis (Some name) (Some arguments) sort (Some rules) = Some (ToSynthesise name arguments.items sort (Some rules))

abbrev pub synthesis_by : Option (Item × Item × Item) → Option (Item × Item × Item × Item × Item) → Option Request
synthesis_by (Some (name, arguments, sort)) longer = synthesis (symbol_spelled name) (list_in arguments) sort
synthesis_by None None = None
synthesis_by None (Some (name, arguments, sort, predeclared, groups)) = ruled_synthesis (symbol_spelled name) (list_in arguments) sort (rulebook predeclared groups)

abbrev pub synth_fun : Items → Option Request
synth_fun parts = synthesis_by (three_items parts) (five parts)

-- `synth-inv`
abbrev pub invariant_synthesis : Option Spelled → Option Listed → Option Request
invariant_synthesis None arguments = None
invariant_synthesis (Some name) None = None
invariant_synthesis (Some name) (Some arguments) = Some (ToSynthesiseInvariant name arguments.items None)

abbrev pub ruled_invariant : Option Spelled → Option Listed → Option Rulebook → Option Request
ruled_invariant None arguments rules = None
ruled_invariant (Some name) None rules = None
ruled_invariant (Some name) (Some arguments) None = None
ruled_invariant (Some name) (Some arguments) (Some rules) = Some (ToSynthesiseInvariant name arguments.items (Some rules))

abbrev pub invariant_by : Option (Item × Item) → Option (Item × Item × Item × Item) → Option Request
invariant_by (Some (name, arguments)) longer = invariant_synthesis (symbol_spelled name) (list_in arguments)
invariant_by None None = None
invariant_by None (Some (name, arguments, predeclared, groups)) = ruled_invariant (symbol_spelled name) (list_in arguments) (rulebook predeclared groups)

abbrev pub synth_inv : Items → Option Request
synth_inv parts = invariant_by (two_items parts) (four parts)

-- `constraint` and `assume`
abbrev pub constraint_request : Items → Option Request
constraint_request (more term none) = Some (ToConstrain term)
constraint_request _ = None

abbrev pub assume_request : Items → Option Request
assume_request (more term none) = Some (ToAssume term)
assume_request _ = None

-- `inv-constraint`
abbrev pub invariant_conditions : Option Spelled → Option Spelled → Option Spelled → Option Spelled → Option Request
invariant_conditions None before step after = None
invariant_conditions (Some invariant) None step after = None
invariant_conditions (Some invariant) (Some before) None after = None
invariant_conditions (Some invariant) (Some before) (Some step) None = None
invariant_conditions (Some invariant) (Some before) (Some step) (Some after) = Some (ToConstrainInvariant invariant before step after)

abbrev pub conditions_by : Option (Item × Item × Item × Item) → Option Request
conditions_by None = None
conditions_by (Some (invariant, before, step, after)) = invariant_conditions (symbol_spelled invariant) (symbol_spelled before) (symbol_spelled step) (symbol_spelled after)

abbrev pub inv_constraint : Items → Option Request
inv_constraint parts = conditions_by (four parts)

-- `check-synth`
abbrev pub check_synth_request : Items → Option Request
check_synth_request none = Some ToCheck
check_synth_request (more first rest) = None

-- the parts of a command, where their number and kinds are right
unfoldable pub request_of : Command → Items → Option Request
request_of SetLogic parts = set_logic_request parts
request_of SetFeature parts = set_feature_request parts
request_of SetInfo parts = note parts
request_of SetOption parts = note parts
request_of DeclareVar parts = declare_var parts
request_of DefineSort parts = define_sort_request parts
request_of DefineFun parts = define_fun parts
request_of SynthFun parts = synth_fun parts
request_of SynthInv parts = synth_inv parts
request_of Constraint parts = constraint_request parts
request_of Assume parts = assume_request parts
request_of InvConstraint parts = inv_constraint parts
request_of CheckSynth parts = check_synth_request parts
