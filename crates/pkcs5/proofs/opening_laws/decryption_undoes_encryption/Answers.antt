use Rattle.pkcs5.specs.OpeningLaws.{opened_once}
use Rattle.pkcs5.proofs.Refused.{memory_alone, memory_of_scrypt}
use Rattle.pkcs5.proofs.opening_laws.decryption_undoes_encryption.Goals as goal

pub returns-clause-text : goal.returns-clause-text
returns-clause-text c = opened_once

pub returns-clause-refused : goal.returns-clause-refused
returns-clause-refused c = memory_alone

pub returns-clause-in_place : goal.returns-clause-in_place
returns-clause-in_place c = memory_of_scrypt
