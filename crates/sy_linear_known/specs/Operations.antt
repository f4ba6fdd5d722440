-- The operations and comparisons of forms, by name.
use Rattle.std.specs.Prelude.{List, Option}
use Rattle.sy_linear_known.specs.declared.form.Form.{Form}
use Rattle.sy_linear_known.specs.declared.path.Fact.{Fact}
use Rattle.sy_linear_known.specs.declared.sight.Node.{Node}
use Rattle.sy_linear_known.specs.declared.arithmetic.Operation.{Operation}
use Rattle.sy_linear_known.specs.declared.arithmetic.Operation.TheVariants.{Sum, Difference, Product}
use Rattle.sy_linear_known.specs.declared.comparisons.Comparison.{Comparison}
use Rattle.sy_linear_known.specs.declared.comparisons.Comparison.TheVariants.{AtMost, Less, AtLeast, Greater, Equal, Distinct}
use Rattle.sy_linear_known.specs.Sights.{form_sum, form_difference, form_product, at_most, less, forms_equal, distinct}

abbrev pub operation_result : Operation → Form → Form → Option Form
operation_result Sum f g = form_sum f g
operation_result Difference f g = form_difference f g
operation_result Product f g = form_product f g

abbrev pub comparison : Comparison → List Fact → Form → Form → Node
comparison AtMost path f g = at_most path f g
comparison Less path f g = less path f g
comparison AtLeast path f g = at_most path g f
comparison Greater path f g = less path g f
comparison Equal path f g = forms_equal path f g
comparison Distinct path f g = distinct path f g
