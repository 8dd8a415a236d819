use Rattle.pkcs5.proofs.Refused.{scheme_memory_alone, scheme_memory_in_place, scheme_once}
use Rattle.pkcs5.proofs.opening_laws.scheme_decryption_undoes_encryption.Goals as goal

pub returns-clause-text : goal.returns-clause-text
returns-clause-text c = scheme_once

pub returns-clause-refused : goal.returns-clause-refused
returns-clause-refused c = scheme_memory_alone

pub returns-clause-in_place : goal.returns-clause-in_place
returns-clause-in_place c = scheme_memory_in_place
