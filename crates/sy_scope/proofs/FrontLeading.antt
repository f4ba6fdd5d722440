-- How the items of a file lead to the end of its front.
use Rattle.std.proofs.Common.{ℕ, zero, suc, ◌+◌, ◌<◌, ◌≤◌, ◌≡◌, refl, sym, ap, ◌∙◌, Bool, true, false, List, length, Option, Some, None, arith}
use Rattle.std.specs.Prelude.{if◌then◌else◌}
use Rattle.sy_text_items.specs.Items.{Item}
use Rattle.sy_forms_items.specs.Parts.{place_of}
use Rattle.sy_scope.specs.Fronts.{begins_replies, item_at, front_by, front_from, front_length}

-- the items from an offset on end the front where it ends
pub record LeadsToFront (file : List ℕ) (at : ℕ) : Type 0 where
  pub turns : ℕ
  pub enough : length file < at + turns
  pub within : at ≤ length file
  pub same : front_from turns file at ≡ front_length file

pub from_beginning : (file : List ℕ) → LeadsToFront file 0
from_beginning file = record {
  turns = length file + 1;
  enough = omega arith;
  within = omega arith;
  same = refl;
}

module _ (file : List ℕ) (at : ℕ) where
  -- in the next turn
  in_turn : (turns : ℕ) → front_from (suc turns) file at ≡ front_length file → (found : Option (Item × ℕ)) → item_at file at ≡ found → front_by file found (front_from turns file) ≡ front_length file
  unfolding front_from
  in_turn turns same found read = sym (ap (λ x. front_by file x (front_from turns file)) read) ∙ same

  on_by : (turns : ℕ) → length file < at + turns → front_from turns file at ≡ front_length file → (x : Item × ℕ) → item_at file at ≡ Some x → begins_replies x.0 ≡ false → at < x.1 → x.1 ≤ length file → LeadsToFront file x.1
  on_by zero enough same x read other forward inside = absurd (omega arith)
  on_by (suc turns) enough same x read other forward inside = record {
    turns = turns;
    enough = omega arith;
    within = inside;
    same = sym (ap (λ (b : Bool). if b then (place_of x.0).at else front_from turns file x.1) other) ∙ in_turn turns same (Some x) read;
  }

  -- an item of a command
  pub leads_on : LeadsToFront file at → (x : Item × ℕ) → item_at file at ≡ Some x → begins_replies x.0 ≡ false → at < x.1 → x.1 ≤ length file → LeadsToFront file x.1
  leads_on l x read other forward inside = on_by l.turns l.enough l.same x read other forward inside

  start_by : (turns : ℕ) → length file < at + turns → at ≤ length file → front_from turns file at ≡ front_length file → (x : Item × ℕ) → item_at file at ≡ Some x → begins_replies x.0 ≡ true → (place_of x.0).at ≡ front_length file
  start_by zero enough within same x read begins = absurd (omega arith)
  start_by (suc turns) enough within same x read begins = sym (ap (λ (b : Bool). if b then (place_of x.0).at else front_from turns file x.1) begins) ∙ in_turn turns same (Some x) read

  -- an item that begins a reply part
  pub leads_to_start : LeadsToFront file at → (x : Item × ℕ) → item_at file at ≡ Some x → begins_replies x.0 ≡ true → (place_of x.0).at ≡ front_length file
  leads_to_start l x read begins = start_by l.turns l.enough l.within l.same x read begins

  end_by : (turns : ℕ) → length file < at + turns → at ≤ length file → front_from turns file at ≡ front_length file → item_at file at ≡ None → length file ≡ front_length file
  end_by zero enough within same read = absurd (omega arith)
  end_by (suc turns) enough within same read = in_turn turns same None read

  -- no item more
  pub leads_to_end : LeadsToFront file at → item_at file at ≡ None → length file ≡ front_length file
  leads_to_end l read = end_by l.turns l.enough l.within l.same read
