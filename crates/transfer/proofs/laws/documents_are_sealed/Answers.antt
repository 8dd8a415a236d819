use Rattle.transfer.proofs.Documents.{document_sealed, sealed_document}
use Rattle.transfer.proofs.laws.documents_are_sealed.Goals as goal

pub returns : goal.returns
returns c = λ document rounds iv salt q text. (
  λ d. (d.in_octets, d.key, d.is_key, document_sealed document rounds iv salt q text d),
  λ s. sealed_document document rounds iv salt q text s.1 s.0 s.2 s.3,
)
