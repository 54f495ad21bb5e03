use Rattle.cqp_vector.proofs.PieceExponents.{pieces_exponents}
use Rattle.cqp_vector.proofs.PieceProducts.{pieces_product}
use Rattle.cqp_vector.proofs.laws.piece_laws.Goals as goal

pub returns-clause-products : goal.returns-clause-products
returns-clause-products c = λ g ps m b i p some e bits. pieces_product g ps m b bits i p some e

pub returns-clause-exponents : goal.returns-clause-exponents
returns-clause-exponents c = λ g ps m some. pieces_exponents ps m g some
