use Rattle.operator_words.proofs.Operators.{unary_shows, unary_keeps_type, binary_shows, binary_keeps_type}
use Rattle.operator_words.proofs.Resized.{low_bits_show, zeros_show, sign_shows}
use Rattle.operator_words.proofs.laws.operators_show.Goals as goal

pub returns-clause-unary_shows : goal.returns-clause-unary_shows
returns-clause-unary_shows c = unary_shows

pub returns-clause-unary_keeps_type : goal.returns-clause-unary_keeps_type
returns-clause-unary_keeps_type c = unary_keeps_type

pub returns-clause-binary_shows : goal.returns-clause-binary_shows
returns-clause-binary_shows c = binary_shows

pub returns-clause-binary_keeps_type : goal.returns-clause-binary_keeps_type
returns-clause-binary_keeps_type c = binary_keeps_type

pub returns-clause-low_bits_show : goal.returns-clause-low_bits_show
returns-clause-low_bits_show c = low_bits_show

pub returns-clause-zeros_show : goal.returns-clause-zeros_show
returns-clause-zeros_show c = zeros_show

pub returns-clause-sign_shows : goal.returns-clause-sign_shows
returns-clause-sign_shows c = sign_shows
